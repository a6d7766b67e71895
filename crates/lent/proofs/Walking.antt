-- One move by the tables, and the questions about a walk as code asks them: move by move. Assumes nothing.
use mathlib.Core.Path.{◌≡◌, refl, sym, ap, ap₂, ◌∙◌}
use mathlib.Core.Logic.{◌⊎◌, inl, inr, ⊎_elim}
use mathlib.Core.Bool.{Bool, true, false, ◌||◌, ◌&&◌, true≢false}
use mathlib.Core.List.{List}
use mathlib.Core.Option.{Option, none, some}
use Prim.Native.Nat.{ℕ, suc, ◌+◌, ◌*◌, ◌/◌, ◌%◌, ◌^◌, ◌≤◌, ◌<◌}
use native.Mathlib.Decide.{ℕ_discrete}
use native.Mathlib.Numerals.{add-one}
use native.Mathlib.Omega.{arith}
use lib.Bits.{bit_or, bit_and, or_comm}
use borrow.Author.Count.{below_more}
use borrow.Author.Tests.{lt-ltb, eq-eqb, ne_eqb}
use Rattle.meaning.specs.Search.{any_below}
use Rattle.meaning.specs.Walk.{Position, at, out, lost, move, after, stands_at, on_circle, comes_to}
use Rattle.meaning.proofs.walk.Moves.{goes_to}
use Rattle.meaning.proofs.walk.Walks.{Reaches, after_suc, going_le}
use Rattle.meaning.proofs.base.Order.{clash, le_or_lt}
use Rattle.meaning.proofs.base.Search.{any_true, any_some, any_off}
use Rattle.meaning.proofs.walk.Tests.{stands_at_lem, at_stands}
use Rattle.meaning.proofs.base.Bits.{zero_bits, or_bits, and_bits, ones_bits, set_bit, shifted}
use Rattle.meaning.proofs.walk.Circles.{round_again}
use Rattle.lent.specs.Owners.{owner_in, via_link, next_in}
use Rattle.lent.specs.Nodes.{among, Off}

-- the next link by an owner, and where it leads
module _ (owner : List ℕ) (k v : ℕ) (h : v < 16) where
  pub next_none : owner_in owner k v ≡ 0 → next_in owner k v ≡ none
  unfolding next_in via_link
  next_none e = rw (lt-ltb v 16 h, eq-eqb (owner_in owner k v) 0 e)

  pub next_some : (owner_in owner k v ≡ 0 → ⊥) → next_in owner k v ≡ some (owner_in owner k v / 512 % 64)
  unfolding next_in via_link
  next_some n = rw (lt-ltb v 16 h, ne_eqb (owner_in owner k v) 0 n)

  module _ (end : ℕ → ℕ) where
    pub no_owner : owner_in owner k v ≡ 0 → (w : ℕ) → move (next_in owner k) end (at v) ≡ at w → ⊥
    no_owner e w q =
        let g = (goes_to (next_in owner k) end v w).0 q in
        clash (cc (next_none e, g.1))

    pub to_node : (owner_in owner k v ≡ 0 → ⊥) → end (owner_in owner k v / 512 % 64) < 256 → move (next_in owner k) end (at v) ≡ at (end (owner_in owner k v / 512 % 64))
    to_node n l = (goes_to (next_in owner k) end v _).1 (_, next_some n, refl, l)

    pub to_end : (owner_in owner k v ≡ 0 → ⊥) → 256 ≤ end (owner_in owner k v / 512 % 64) → (w : ℕ) → move (next_in owner k) end (at v) ≡ at w → ⊥
    to_end n l w q =
        let g = (goes_to (next_in owner k) end v w).0 q in
        let e : g.0 ≡ owner_in owner k v / 512 % 64 = cc (next_some n, g.1) in
        omega (arith, ap end e, g.2, g.3)

-- some number below n has P, where those below i have not
module _ (P : ℕ → Bool) (n i : ℕ) (before : (k : ℕ) → k < i → P k ≡ false) where
  none_after : ((k : ℕ) → i ≤ k → P k ≡ false) → any_below n P ≡ false
  none_after off = any_off P n (λ k h. ⊎_elim (λ (l : i ≤ k). off k l) (λ (l : k < i). before k l) (le_or_lt i k))

  pub none_below : n ≤ i → any_below n P ≡ false
  none_below h = any_off P n (λ k l. before k (omega arith))

-- the walk from v, which stands at u after i moves
module _ (next : ℕ → Option ℕ) (end : ℕ → ℕ) (v i u : ℕ) (here : after next end i (at v) ≡ at u) where
  -- one move more
  pub step_to : (w : ℕ) → move next end (at u) ≡ at w → after next end (i + 1) (at v) ≡ at w
  step_to w e = rw add-one (after_suc next end i (at v) ∙ ap (move next end) here ∙ e)

  -- where no move leads on, it stands nowhere later
  stopped : ((w : ℕ) → move next end (at u) ≡ at w → ⊥) → (k w : ℕ) → i < k → stands_at w (after next end k (at v)) ≡ false
  unfolding stands_at
  stopped off k w l = go (after next end k (at v)) refl
    where
      go : (q : Position) → after next end k (at v) ≡ q → stands_at w q ≡ false
      go (out x) e = refl
      go (lost x) e = refl
      go (at x) e =
          let g = going_le next end (at v) (suc i) k l (x, e) in
          absurd (off g.0 (sym (ap (move next end) here) ∙ sym (after_suc next end i (at v)) ∙ g.1))

  -- it stands at w now, or not
  stands_now : (w : ℕ) → u ≡ w → stands_at w (after next end i (at v)) ≡ true
  stands_now w e = at_stands w _ (here ∙ ap at e)

  stands_not : (w : ℕ) → (u ≡ w → ⊥) → stands_at w (after next end i (at v)) ≡ false
  unfolding stands_at
  stands_not w n = ap (stands_at w) here ∙ ne_eqb u w n

-- whether the walk comes to w, asked node by node
module _ (next : ℕ → Option ℕ) (end : ℕ → ℕ) (v w : ℕ) where
  abbrev pub NotYet : ℕ → Type 0
  NotYet i = (k : ℕ) → k < i → stands_at w (after next end k (at v)) ≡ false

  module _ (i u : ℕ) (here : after next end i (at v) ≡ at u) where
    pub comes_now : (n : ℕ) → i < n → u ≡ w → comes_to next end n v w ≡ true
    unfolding comes_to
    comes_now n l e = any_true _ n i l (stands_now next end v i u here w e)

    pub not_now : NotYet i → (u ≡ w → ⊥) → NotYet (i + 1)
    not_now f n = below_more _ _ f (stands_not next end v i u here w n)

    pub comes_never : NotYet (i + 1) → ((x : ℕ) → move next end (at u) ≡ at x → ⊥) → (n : ℕ) → comes_to next end n v w ≡ false
    unfolding comes_to
    comes_never f off n = none_after _ n (i + 1) f (λ k l. stopped next end v i u here off k w (omega arith))

-- whether moves, one at least, lead back to v
module _ (next : ℕ → Option ℕ) (end : ℕ → ℕ) (v : ℕ) where
  abbrev pub NotBack : ℕ → Type 0
  NotBack i = (k : ℕ) → k < i → stands_at v (after next end (suc k) (at v)) ≡ false

  module _ (i u : ℕ) (here : after next end i (at v) ≡ at u) where
    pub back_now : (n w : ℕ) → i < n → move next end (at u) ≡ at w → w ≡ v → on_circle next end n v ≡ true
    unfolding on_circle
    back_now n w l e q = any_true _ n i l (stands_now next end v (suc i) w (rw add-one at (step_to next end v i u here w e)) v q)

    pub not_back : NotBack i → (w : ℕ) → move next end (at u) ≡ at w → (w ≡ v → ⊥) → NotBack (i + 1)
    not_back f w e n = below_more _ _ f (stands_not next end v (suc i) w (rw add-one at (step_to next end v i u here w e)) v n)

    pub back_never : NotBack i → ((x : ℕ) → move next end (at u) ≡ at x → ⊥) → (n : ℕ) → on_circle next end n v ≡ false
    unfolding on_circle
    back_never f off n = none_after _ n i f (λ k l. stopped next end v i u here off (suc k) v (omega arith))

-- a node that no move leads on from
pub no_circle : (next : ℕ → Option ℕ) (end : ℕ → ℕ) (u : ℕ) → ((x : ℕ) → move next end (at u) ≡ at x → ⊥) → (n : ℕ) → on_circle next end n u ≡ false
unfolding after
no_circle next end u off n = back_never next end u 0 u refl (λ k h. absurd (omega arith)) off n

-- ---- sets of nodes, a bit for each node

pub in_none : (u : ℕ) → among 0 u ≡ true → ⊥
in_none u e = true≢false (sym e ∙ zero_bits u)

-- the set of all 16
pub in_all : (u : ℕ) → u < 16 → among 65535 u ≡ true
in_all = ones_bits 16

module _ (a b u : ℕ) where
  pub in_either : among a u ≡ true → among (bit_or a b) u ≡ true
  in_either e = or_bits a b u ∙ ap (λ (t : Bool). t || among b u) e

  pub in_both : among a u ≡ true → among b u ≡ true → among (bit_and a b) u ≡ true
  in_both e f = and_bits a b u ∙ ap₂ ◌&&◌ e f

-- node u alone
pub in_alone : (u : ℕ) → u < 16 → among (1 * 2 ^ u % 65536) u ≡ true
in_alone u h = rw (shifted 16 u h) (set_bit 0 u u ∙ ap₂ ◌||◌ (zero_bits u) (eq-eqb u u refl))

-- node u joins the set
module _ (nodes u : ℕ) (h : u < 16) where
  pub in_new : among (bit_or nodes (1 * 2 ^ u % 65536)) u ≡ true
  in_new = rw or_comm (in_either (1 * 2 ^ u % 65536) nodes u (in_alone u h))

  pub in_old : (x : ℕ) → among (bit_or nodes (1 * 2 ^ u % 65536)) x ≡ true → (among nodes x ≡ true) ⊎ (u ≡ x)
  in_old x e = go (among nodes x) refl (ℕ_discrete u x) (rw (shifted 16 u h) at e)
    where
      go : (t : Bool) → among nodes x ≡ t → Dec (u ≡ x) → among (bit_or nodes (2 ^ u)) x ≡ true → (among nodes x ≡ true) ⊎ (u ≡ x)
      go true f d e = inl f
      go false f (yes q) e = inr q
      go false f (no q) e = absurd (true≢false (sym e ∙ set_bit nodes u x ∙ ap₂ ◌||◌ f (ne_eqb u x q)))

-- ---- nodes that are seen to lie on no circle

-- each of these nodes lies on no circle, or leads to u
pub record Trail (next : ℕ → Option ℕ) (end : ℕ → ℕ) (n nodes u : ℕ) : Type 0 where
  pub leads : (x : ℕ) → among nodes x ≡ true → (on_circle next end n x ≡ false) ⊎ Reaches next end x u

module _ (next : ℕ → Option ℕ) (end : ℕ → ℕ) (n : ℕ) where
  -- what leads to a node on no circle lies on none itself
  pub off_before : (x i u : ℕ) → after next end i (at x) ≡ at u → on_circle next end n u ≡ false → on_circle next end n x ≡ false
  unfolding on_circle
  off_before x i u here f = go (on_circle next end n x) refl
    where
      go : (t : Bool) → on_circle next end n x ≡ t → t ≡ false
      go false e = refl
      go true e =
          let r = any_some (λ k. stands_at x (after next end (suc k) (at x))) n e in
          let back = round_again next end x (suc r.0) i u (stands_at_lem x _ r.2) here in
          absurd (true≢false (sym (any_true (λ k. stands_at u (after next end (suc k) (at u))) n r.0 r.1 (at_stands u _ back)) ∙ f))

  module _ (nodes u : ℕ) where
    pub trail_start : Off next end n nodes → Trail next end n nodes u
    trail_start F = record { leads = λ x e. inl (F.none_on x e) }

    -- u joins them
    pub trail_here : u < 16 → Trail next end n nodes u → Trail next end n (bit_or nodes (1 * 2 ^ u % 65536)) u
    unfolding after
    trail_here h T = record { leads = λ x e. ⊎_elim (T.leads x) (λ (q : u ≡ x). inr (0, ap at (sym q))) (in_old nodes u h x e) }

    pub trail_on : Trail next end n nodes u → (w : ℕ) → move next end (at u) ≡ at w → Trail next end n nodes w
    trail_on T w m = record { leads = λ x e. ⊎_elim inl (λ r. inr (r.0 + 1, step_to next end x r.0 u r.1 w m)) (T.leads x e) }

    pub trail_off : Trail next end n nodes u → on_circle next end n u ≡ false → Off next end n nodes
    trail_off T f = record { none_on = λ x e. ⊎_elim (λ g. g) (λ r. off_before x r.0 u r.1 f) (T.leads x e) }
