-- The laws of circles. A walk that never ends comes to a circle within n moves, and goes through all of it in n more.
-- Assumes nothing.
use mathlib.Core.Path.{◌≡◌, refl, sym, ◌∙◌, ap}
use mathlib.Core.Option.{Option}
use Prim.Native.Nat.{ℕ, zero, suc, ◌+◌, ◌-◌, ◌≤◌, ◌<◌}
use native.Mathlib.Decide.{ℕ_discrete}
use native.Mathlib.Omega.{arith}
use Rattle.meaning.specs.Walk.{Position, at, move, after}
use Rattle.meaning.proofs.walk.Walks.{Never, Closed, Reaches, OnCircle, after_add, after_suc, repeats, below, meets}

module _ (next : ℕ → Option ℕ) (end : ℕ → ℕ) where
  -- k moves on from where m moves lead
  on : (p : Position) (m k t w : ℕ) → m + k ≡ t → after next end m p ≡ at w → after next end t p ≡ after next end k (at w)
  on p m k t w e f = rw (← e, after_add, f)

  -- the moves of a circle lead back from each of its places
  pub round_again : (c p m u : ℕ) → after next end p (at c) ≡ at c → after next end m (at c) ≡ at u → after next end p (at u) ≡ at u
  round_again c p m u e f = sym (on (at c) m p (m + p) u refl f) ∙ on (at c) p m (m + p) c (omega arith) e ∙ f

  -- a node of a circle is come to again after m moves or more
  turns : (v : ℕ) → OnCircle next end v → (m : ℕ) → (t : ℕ) × (m ≤ t) × (after next end t (at v) ≡ at v)
  unfolding after
  turns v o zero = (0, omega arith, refl)
  turns v o (suc m) =
      let r = turns v o m in
      (r.0 + o.0, omega (arith, r.1, o.1), on (at v) r.0 o.0 (r.0 + o.0) v refl r.2 ∙ o.2)

  pub circle_never : (v : ℕ) → OnCircle next end v → Never next end (at v)
  unfolding after
  circle_never v o = repeats next end (at v) 0 o.0 o.1 (sym o.2) (v, o.2)

  -- a place of a circle of p moves is come to in fewer than p
  fewer : (c p : ℕ) → 0 < p → after next end p (at c) ≡ at c → (m : ℕ) → (d : ℕ) × (d < p) × (after next end m (at c) ≡ after next end d (at c))
  unfolding after
  fewer c p pos e zero = (0, pos, refl)
  fewer c p pos e (suc m) = go (fewer c p pos e m)
    where
      go : ((d : ℕ) × (d < p) × (after next end m (at c) ≡ after next end d (at c))) → (d : ℕ) × (d < p) × (after next end (suc m) (at c) ≡ after next end d (at c))
      go r = last (ℕ_discrete (suc r.0) p)
        where
          more : after next end (suc m) (at c) ≡ after next end (suc r.0) (at c)
          more = after_suc next end m (at c) ∙ ap (move next end) r.2 ∙ sym (after_suc next end r.0 (at c))

          last : Dec (suc r.0 ≡ p) → (d : ℕ) × (d < p) × (after next end (suc m) (at c) ≡ after next end d (at c))
          last (yes s) = (0, pos, more ∙ ap (λ k. after next end k (at c)) s ∙ e)
          last (no s) = (suc r.0, omega (arith, r.1), more)

  module _ (n : ℕ) (closed : Closed next end n) (v : ℕ) (h : v < n) where
    -- the node that n moves lead to lies on a circle of at most n moves
    pub comes : (c : ℕ) → after next end n (at v) ≡ at c → (p : ℕ) × (0 < p) × (p ≤ n) × (after next end p (at c) ≡ at c)
    comes c e =
        let t = meets next end n closed v h (c, e) in
        let back = sym (on (at v) t.i (t.j - t.i) t.j t.node (omega arith) t.first) ∙ t.again in
        let here = sym (on (at v) t.i (n - t.i) n t.node (omega arith) t.first) ∙ e in
        (t.j - t.i, omega arith, omega arith, round_again t.node (t.j - t.i) (n - t.i) c back here)

    -- a walk that never ends comes to a node of a circle
    pub never_circle : Never next end (at v) → (c : ℕ) × (c < n) × Reaches next end v c × OnCircle next end c
    never_circle r =
        let g = r n in
        let q = comes g.0 g.1 in
        (g.0, below next end n closed v h n g.0 g.1, (n, g.1), (q.0, q.1, q.3))

    pub circle_short : OnCircle next end v → (p : ℕ) × (0 < p) × (p ≤ n) × (after next end p (at v) ≡ at v)
    circle_short o =
        let g = circle_never v o n in
        let q = comes g.0 g.1 in
        let t = turns v o n in
        (q.0, q.1, q.2, round_again g.0 q.0 (t.0 - n) v q.3 (sym (on (at v) n (t.0 - n) t.0 g.0 (omega (arith, t.1)) g.1) ∙ t.2))
