-- The tests of a walk: it stands at a node, goes round, lies on a circle, comes to a node. Each says what it is named for. Assumes nothing.
use mathlib.Core.Path.{◌≡◌, refl, sym, ap, ◌∙◌}
use mathlib.Core.Logic.{◌↔◌}
use mathlib.Core.Bool.{Bool, true, true≢false}
use mathlib.Core.Option.{Option}
use Prim.Native.Nat.{ℕ, suc, ◌-◌, ◌<◌, zero, ◌+◌}
use native.Mathlib.Omega.{arith}
use native.Mathlib.Decide.{dec_lt}
use borrow.Author.Tests.{eqb-true, eq-eqb}
use Rattle.meaning.specs.Search.{any_below}
use Rattle.meaning.specs.Walk.{Position, at, out, lost, after, stands, stands_at, goes_round, on_circle, comes_to}
use Rattle.meaning.proofs.base.Search.{any_true, any_some}
use Rattle.meaning.proofs.walk.Walks.{Going, Never, Closed, OnCircle, never, Reaches, going_le, again, meets}
use Rattle.meaning.proofs.walk.Circles.{circle_short}

pub stands_at_lem : (v : ℕ) (p : Position) → stands_at v p ≡ true → p ≡ at v
unfolding stands_at
stands_at_lem v (at w) e = ap at (eqb-true w v e)
stands_at_lem v (out l) e = absurd (true≢false (sym e))
stands_at_lem v (lost w) e = absurd (true≢false (sym e))

pub at_stands : (v : ℕ) (p : Position) → p ≡ at v → stands_at v p ≡ true
unfolding stands_at
at_stands v p e = ap (stands_at v) e ∙ eq-eqb v v refl

module _ (next : ℕ → Option ℕ) (end : ℕ → ℕ) (n : ℕ) (closed : Closed next end n) (v : ℕ) (h : v < n) where
  -- a walk goes round just where it never ends
  pub round_is : (goes_round next end n v ≡ true) ↔ Never next end (at v)
  unfolding goes_round stands
  round_is = (λ e. never next end n closed v h (going (after next end n (at v)) refl e), λ f. ap stands (f n).1)
    where
      going : (p : Position) → after next end n (at v) ≡ p → stands p ≡ true → Going next end n (at v)
      going (at w) e f = (w, e)
      going (out l) e f = absurd (true≢false (sym f))
      going (lost w) e f = absurd (true≢false (sym f))

  -- v is on a circle just where some moves, one at least, lead back to it
  pub circle_is : (on_circle next end n v ≡ true) ↔ OnCircle next end v
  unfolding on_circle
  circle_is = (there, back)
    where
      P : ℕ → Bool
      P k = stands_at v (after next end (suc k) (at v))

      there : any_below n P ≡ true → OnCircle next end v
      there e = let r = any_some P n e in (suc r.0, omega arith, stands_at_lem v _ r.2)

      back : OnCircle next end v → any_below n P ≡ true
      back o =
          let q = circle_short next end n closed v h o in
          let s : suc (q.0 - 1) ≡ q.0 = omega (arith, q.1) in
          any_true P n (q.0 - 1) (omega (arith, q.1, q.2)) (at_stands v _ (ap (λ (k : ℕ). after next end k (at v)) s ∙ q.3))

module _ (next : ℕ → Option ℕ) (end : ℕ → ℕ) (n : ℕ) (closed : Closed next end n) (v : ℕ) (h : v < n) where
  -- a place come to in k moves is come to in fewer than n
  sooner : (fuel k w : ℕ) → k < fuel → after next end k (at v) ≡ at w → (d : ℕ) × (d < n) × (after next end d (at v) ≡ at w)
  sooner zero k w l e = absurd (omega arith)
  sooner (suc fuel) k w l e = go (dec_lt k n) (λ j b f. sooner fuel j w b f)
    where
      go : Dec (k < n) → ((j : ℕ) → j < fuel → after next end j (at v) ≡ at w → (d : ℕ) × (d < n) × (after next end d (at v) ≡ at w)) → (d : ℕ) × (d < n) × (after next end d (at v) ≡ at w)
      go (yes b) f = (k, b, e)
      go (no b) f =
          let t = meets next end n closed v h (going_le next end (at v) n k (omega arith) (w, e)) in
          let s : t.j + (k - t.j) ≡ k = omega arith in
          f (t.i + (k - t.j)) (omega arith)
          (again next end (at v) t.i t.j (k - t.j) (t.first ∙ sym t.again) ∙ ap (λ (x : ℕ). after next end x (at v)) s ∙ e)

  pub reach_is : (w : ℕ) → (comes_to next end n v w ≡ true) ↔ Reaches next end v w
  unfolding comes_to
  reach_is w = (there', back')
    where
      P : ℕ → Bool
      P k = stands_at w (after next end k (at v))

      there' : any_below n P ≡ true → Reaches next end v w
      there' e = let r = any_some P n e in (r.0, stands_at_lem w _ r.2)

      back' : Reaches next end v w → any_below n P ≡ true
      back' o = let q = sooner (suc o.0) o.0 w (omega arith) o.1 in any_true P n q.0 q.1 (at_stands w _ q.2)
