-- The answers to loop, reach and tally after any records, over addresses. Assumes nothing.
use mathlib.Core.Path.{◌≡◌, refl, sym, ap, ◌∙◌}
use mathlib.Core.Logic.Iff
use mathlib.Core.Logic.{◌↔◌}
use mathlib.Core.Bool.{true, true≢false}
use mathlib.Core.Option.{Option, none, some}
use Prim.Native.Nat.{ℕ, zero, suc, ◌+◌, ◌<◌}
use native.Mathlib.Omega.{arith}
use lib.Pow.{pow_pos}
use native.Mathlib.Nat.{not-suc-le-zero}
use Rattle.meaning.specs.declared.Fate.{Fate}
use Rattle.meaning.specs.declared.Fate.TheVariants.{Out, Lost, Round}
use Rattle.meaning.specs.declared.Answer.TheVariants.{Loop, NoLoop, Yes, No, Tally}
use Rattle.meaning.specs.Search.{pick, count_below}
use Rattle.meaning.specs.Hall.{State, top, end_of}
use Rattle.meaning.specs.Questions.{fate_of, is_out, is_lost, is_round, loops_at, circle_at, some_node, loop_from, reaches_at, reach_from, asked, by_address}
use Rattle.meaning.specs.Winner.{next_at}
use Rattle.meaning.specs.Walk.{at, after, goes_round, on_circle}
use Rattle.meaning.proofs.base.Search.{any_true, any_some, Lowest, lowest_by, lowest_once, Sought, missing, found, sought, lowest_is}
use Rattle.meaning.proofs.walk.Walks.{Never, OnCircle, IsFate}
use Rattle.meaning.proofs.sound.Ways.{closed_in, loop_circle}
use Rattle.meaning.proofs.walk.Tests.{round_is, circle_is, reach_is}
use Rattle.meaning.proofs.document.Fates.{fate_exact}
use Rattle.meaning.proofs.base.Order.{clash}
use Rattle.meaning.specs.Records.{loop, reach, tally}
use Rattle.meaning.specs.Tables.{Sound}

pub tally_all : (m : State) (v t : ℕ) → count_below t (λ a. is_out (fate_of m v a)) + count_below t (λ a. is_lost (fate_of m v a)) + count_below t (λ a. is_round (fate_of m v a)) ≡ t
unfolding count_below is_out is_lost is_round
tally_all m v zero = refl
tally_all m v (suc t) = go (fate_of m v t) (tally_all m v t)
  where
    go : (f : Fate)
        → count_below t (λ a. is_out (fate_of m v a)) + count_below t (λ a. is_lost (fate_of m v a)) + count_below t (λ a. is_round (fate_of m v a)) ≡ t
        → (count_below t (λ a. is_out (fate_of m v a)) + pick (is_out f) 1 0) + (count_below t (λ a. is_lost (fate_of m v a)) + pick (is_lost f) 1 0) + (count_below t (λ a. is_round (fate_of m v a)) + pick (is_round f) 1 0) ≡ suc t
    go (Fate.Out l h) e = omega arith
    go (Fate.Lost w h) e = omega arith
    go Fate.Round e = omega arith

-- ---- loop

-- the walk of a packet to address a never ends from some node
abbrev pub Loops : State → ℕ → Type 0
Loops m a = (v : ℕ) × (v < m.plan.nodes) × Never (next_at m a) (end_of m) (at v)

-- the walk of a packet to address a from node v stands at node w at some time, the start counted
abbrev pub Comes : State → ℕ → ℕ → ℕ → Type 0
Comes m v w a = (k : ℕ) × (after (next_at m a) (end_of m) k (at v) ≡ at w)

module _ (m : State) (S : Sound m) where
  loops_is : (a : ℕ) → (loops_at m a ≡ true) ↔ Loops m a
  unfolding loops_at
  loops_is a =
      (λ e. let x = any_some _ m.plan.nodes e in (x.0, x.1, (r x.0 x.1).0 x.2), λ x. any_true _ m.plan.nodes x.0 x.1 ((r x.0 x.1).1 x.2))
    where
      r : (v : ℕ) → v < m.plan.nodes → (goes_round (next_at m a) (end_of m) m.plan.nodes v ≡ true) ↔ Never (next_at m a) (end_of m) (at v)
      r v h = round_is (next_at m a) (end_of m) m.plan.nodes (closed_in m S a) v h

  circle_lowest : (a v : ℕ) → (circle_at m a ≡ some v) ↔ Lowest m.plan.nodes (OnCircle (next_at m a) (end_of m)) v
  unfolding circle_at
  circle_lowest a v = (
    λ e. lowest_by m.plan.nodes _ _ r v ((lowest_is (on_circle (next_at m a) (end_of m) m.plan.nodes) m.plan.nodes v).0 e),
    λ x. (lowest_is (on_circle (next_at m a) (end_of m) m.plan.nodes) m.plan.nodes v).1 (lowest_by m.plan.nodes _ _ (λ i h. Iff.symm (r i h)) v x),
  )
    where
      r : (i : ℕ) → i < m.plan.nodes → (on_circle (next_at m a) (end_of m) m.plan.nodes i ≡ true) ↔ OnCircle (next_at m a) (end_of m) i
      r i h = circle_is (next_at m a) (end_of m) m.plan.nodes (closed_in m S a) i h

  loop_lowest : (a : ℕ) → Lowest (top m) (λ i. loops_at m i ≡ true) a ↔ Lowest (top m) (Loops m) a
  loop_lowest a = (lowest_by (top m) _ _ (λ i h. loops_is i) a, lowest_by (top m) _ _ (λ i h. Iff.symm (loops_is i)) a)

  -- THE LAW: the answer to loop is address a and node v exactly when a is the lowest address whose walk from some node never ends,
  -- and v the lowest node that lies on a circle of a's walks: some moves, one at least, lead from v back to v
  pub loop_some : (a v : ℕ) → (by_address m loop ≡ Loop a v) ↔ (Lowest (top m) (Loops m) a × Lowest m.plan.nodes (OnCircle (next_at m a) (end_of m)) v)
  unfolding by_address asked loop_from some_node
  loop_some a v = (there _ (sought (loops_at m) (top m)), back _ (sought (loops_at m) (top m)))
    where
      node : (b : ℕ) → Lowest (top m) (λ i. loops_at m i ≡ true) b → (o : Option ℕ) → circle_at m b ≡ o → some_node b o ≡ Loop a v → Lowest (top m) (Loops m) a × Lowest m.plan.nodes (OnCircle (next_at m a) (end_of m)) v
      node b x none f e = clash cc
      node b x (some w) f e =
          let p : b ≡ a = cc in
          let q : w ≡ v = cc in
          ((loop_lowest a).0 (rw p at x), (circle_lowest a v).0 (sym (ap (circle_at m) p) ∙ f ∙ ap some q))

      there : (o : Option ℕ) → Sought (loops_at m) (top m) o → loop_from m o ≡ Loop a v → Lowest (top m) (Loops m) a × Lowest m.plan.nodes (OnCircle (next_at m a) (end_of m)) v
      there o (missing f) e = clash cc
      there o (found b x) e = node b x (circle_at m b) refl e

      back : (o : Option ℕ) → Sought (loops_at m) (top m) o → Lowest (top m) (Loops m) a × Lowest m.plan.nodes (OnCircle (next_at m a) (end_of m)) v → loop_from m o ≡ Loop a v
      back o (missing f) (x, y) = absurd (f a x.within ((loops_is a).1 x.has))
      back o (found b z) (x, y) =
          let p : b ≡ a = lowest_once (top m) (λ i. loops_at m i ≡ true) b a z ((loop_lowest a).1 x) in
          ap (λ (i : ℕ). some_node i (circle_at m i)) p ∙ ap (some_node a) ((circle_lowest a v).1 y)

  -- and it is none exactly when no address goes round from any node
  pub loop_none : (by_address m loop ≡ NoLoop) ↔ ((a : ℕ) → a < top m → Loops m a → ⊥)
  unfolding by_address asked loop_from some_node
  loop_none = (there _ (sought (loops_at m) (top m)), back _ (sought (loops_at m) (top m)))
    where
      node : (b : ℕ) → loops_at m b ≡ true → (o : Option ℕ) → circle_at m b ≡ o → some_node b o ≡ NoLoop → ⊥
      node b x none f e = loop_circle m S b x f
      node b x (some w) f e = clash cc

      there : (o : Option ℕ) → Sought (loops_at m) (top m) o → loop_from m o ≡ NoLoop → (a : ℕ) → a < top m → Loops m a → ⊥
      there o (missing f) e a h x = f a h ((loops_is a).1 x)
      there o (found b x) e a h y = node b x.has (circle_at m b) refl e

      back : (o : Option ℕ) → Sought (loops_at m) (top m) o → ((a : ℕ) → a < top m → Loops m a → ⊥) → loop_from m o ≡ NoLoop
      back o (missing f) g = refl
      back o (found b x) g = absurd (g b x.within ((loops_is b).0 x.has))

  -- ---- reach

  module _ (v w : ℕ) (h : v < m.plan.nodes) where
    comes_is : (a : ℕ) → (reaches_at m v w a ≡ true) ↔ Comes m v w a
    unfolding reaches_at
    comes_is a = reach_is (next_at m a) (end_of m) m.plan.nodes (closed_in m S a) v h w

    -- THE LAW: the answer to reach is yes and address a exactly when a is the lowest address whose walk from v stands at w at some time
    pub reach_yes : (a : ℕ) → (by_address m (reach v w) ≡ Yes a) ↔ Lowest (top m) (Comes m v w) a
    unfolding by_address asked reach_from
    reach_yes a = (there _ (sought (reaches_at m v w) (top m)), back _ (sought (reaches_at m v w) (top m)))
      where
        there : (o : Option ℕ) → Sought (reaches_at m v w) (top m) o → reach_from o ≡ Yes a → Lowest (top m) (Comes m v w) a
        there o (missing f) e = clash cc
        there o (found b x) e = let p : b ≡ a = cc in lowest_by (top m) _ _ (λ i l. comes_is i) a (rw p at x)

        back : (o : Option ℕ) → Sought (reaches_at m v w) (top m) o → Lowest (top m) (Comes m v w) a → reach_from o ≡ Yes a
        back o (missing f) x = absurd (f a x.within ((comes_is a).1 x.has))
        back o (found b z) x = ap Yes (lowest_once (top m) (λ i. reaches_at m v w i ≡ true) b a z (lowest_by (top m) _ _ (λ i l. Iff.symm (comes_is i)) a x))

    pub reach_no : (by_address m (reach v w) ≡ No) ↔ ((a : ℕ) → a < top m → Comes m v w a → ⊥)
    unfolding by_address asked reach_from
    reach_no = (there _ (sought (reaches_at m v w) (top m)), back _ (sought (reaches_at m v w) (top m)))
      where
        there : (o : Option ℕ) → Sought (reaches_at m v w) (top m) o → reach_from o ≡ No → (a : ℕ) → a < top m → Comes m v w a → ⊥
        there o (missing f) e a l x = f a l ((comes_is a).1 x)
        there o (found b x) e a l y = clash cc

        back : (o : Option ℕ) → Sought (reaches_at m v w) (top m) o → ((a : ℕ) → a < top m → Comes m v w a → ⊥) → reach_from o ≡ No
        back o (missing f) g = refl
        back o (found b x) g = absurd (g b x.within ((comes_is b).0 x.has))

  -- from a node to itself: yes, address 0
  pub reach_self : (v : ℕ) → v < m.plan.nodes → by_address m (reach v v) ≡ Yes 0
  reach_self v h = (reach_yes v v h 0).1 (record { within = pow_pos m.width; has = (0, unfold after in refl); first = λ b l. absurd (not-suc-le-zero l) })

-- ---- tally

-- the counts of the addresses below t that are out, lost and round from node v
abbrev pub out_below : State → ℕ → ℕ → ℕ
out_below m v t = count_below t (λ a. is_out (fate_of m v a))

abbrev pub lost_below : State → ℕ → ℕ → ℕ
lost_below m v t = count_below t (λ a. is_lost (fate_of m v a))

abbrev pub round_below : State → ℕ → ℕ → ℕ
round_below m v t = count_below t (λ a. is_round (fate_of m v a))

-- THE LAW: the three numbers of a tally are the counts, over all addresses, of the three fates
pub tally_counts : (m : State) (v : ℕ) → by_address m (tally v) ≡ Tally (out_below m v (top m)) (lost_below m v (top m)) (round_below m v (top m))
unfolding by_address asked
tally_counts m v = refl

-- and they add up to all of them
pub tally_sum : (m : State) (v o l r : ℕ) → by_address m (tally v) ≡ Tally o l r → o + l + r ≡ top m
tally_sum m v o l r e = add (out_below m v (top m)) (lost_below m v (top m)) (round_below m v (top m)) (sym (tally_counts m v) ∙ e) (tally_all m v (top m))
  where
    add : (x y z : ℕ) → Tally x y z ≡ Tally o l r → x + y + z ≡ top m → o + l + r ≡ top m
    add x y z e s = let a : x ≡ o = cc in let b : y ≡ l = cc in let d : z ≡ r = cc in omega arith

-- an address is counted as what becomes of its packet
module _ (m : State) (S : Sound m) (v a : ℕ) (h : v < m.plan.nodes) where
  pub out_counted : (is_out (fate_of m v a) ≡ true) ↔ ((l k : ℕ) × IsFate (next_at m a) (end_of m) v (Out l k))
  unfolding is_out
  out_counted = (go _ refl, λ x. ap is_out ((fate_exact m S v a h (Out x.0 x.1)).1 x.2))
    where
      go : (f : Fate) → fate_of m v a ≡ f → is_out f ≡ true → (l k : ℕ) × IsFate (next_at m a) (end_of m) v (Out l k)
      go (Out l k) e t = (l, k, (fate_exact m S v a h (Out l k)).0 e)
      go (Lost w k) e t = absurd (true≢false (sym t))
      go Round e t = absurd (true≢false (sym t))

  pub lost_counted : (is_lost (fate_of m v a) ≡ true) ↔ ((w k : ℕ) × IsFate (next_at m a) (end_of m) v (Lost w k))
  unfolding is_lost
  lost_counted = (go _ refl, λ x. ap is_lost ((fate_exact m S v a h (Lost x.0 x.1)).1 x.2))
    where
      go : (f : Fate) → fate_of m v a ≡ f → is_lost f ≡ true → (w k : ℕ) × IsFate (next_at m a) (end_of m) v (Lost w k)
      go (Out l k) e t = absurd (true≢false (sym t))
      go (Lost w k) e t = (w, k, (fate_exact m S v a h (Lost w k)).0 e)
      go Round e t = absurd (true≢false (sym t))

  pub round_counted : (is_round (fate_of m v a) ≡ true) ↔ Never (next_at m a) (end_of m) (at v)
  unfolding is_round IsFate
  round_counted = (go _ refl, λ x. ap is_round ((fate_exact m S v a h Round).1 x))
    where
      go : (f : Fate) → fate_of m v a ≡ f → is_round f ≡ true → Never (next_at m a) (end_of m) (at v)
      go (Out l k) e t = absurd (true≢false (sym t))
      go (Lost w k) e t = absurd (true≢false (sym t))
      go Round e t = (fate_exact m S v a h Round).0 e
