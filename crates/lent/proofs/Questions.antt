-- The questions as code asks them: place by place by rising address, each by the owners of the atom there. Assumes nothing.
use mathlib.Core.Path.{◌≡◌, refl, sym, ap, ◌∙◌}
use mathlib.Core.Bool.{Bool, true, false}
use mathlib.Core.List.{List}
use mathlib.Core.Option.{Option, none, some}
use Prim.Native.Nat.{ℕ, zero, suc, ◌+◌, ◌-◌, ◌/◌, ◌%◌, ◌≤◌, ◌<◌}
use native.Mathlib.Nat.{not-suc-le-zero}
use native.Mathlib.Numerals.{add-one}
use native.Mathlib.Decide.{ℕ_discrete}
use native.Mathlib.Omega.{arith}
use lib.ListN.{get_or}
use Rattle.meaning.specs.declared.Fate.{Fate}
use Rattle.meaning.specs.declared.Answer.TheVariants.{Loop, NoLoop, Yes, No, Tally}
use Rattle.meaning.specs.Records.{Question, loop, reach, tally}
use Rattle.meaning.specs.Search.{pick, or_else}
use Rattle.meaning.specs.Hall.{top, State, end_of}
use Rattle.meaning.specs.Winner.{next_at}
use Rattle.meaning.specs.Walk.{on_circle, comes_to, fate_in}
use Rattle.meaning.specs.Questions.{fate_of, loops_at, circle_at, some_node, loop_from, reaches_at, reach_from, is_out, is_lost, is_round, asked, by_address}
use Rattle.meaning.specs.Working.{least_place, count_place, by_place}
use Rattle.meaning.specs.Tables.{Cuts, Holds}
use Rattle.meaning.proofs.atoms.Cuts.{cut_top, lower_holds}
use Rattle.meaning.proofs.atoms.Constant.{by_place_lem}
use Rattle.meaning.proofs.base.Search.{any_true, lowest_off, lowest_first}
use Rattle.meaning.proofs.walk.Circles.{circle_never}
use Rattle.meaning.proofs.sound.Ways.{closed_in, loop_circle}
use Rattle.meaning.proofs.walk.Tests.{round_is, circle_is}
use Rattle.lent.specs.Owners.{owner_in, next_in, end_in, Ends, Whole}
use Rattle.lent.proofs.Labelled.{via_named, next_is, end_is, ends_in}

-- ---- the lowest place with P, and how many addresses have it

-- how many addresses place p holds
abbrev pub width : List ℕ → ℕ → ℕ
width cut p = get_or cut (p + 1) 0 - get_or cut p 0

module _ (cut : List ℕ) (P : ℕ → Bool) where
  least_none : (n : ℕ) → ((q : ℕ) → q < n → P (get_or cut q 0) ≡ false) → least_place cut n P ≡ none
  unfolding least_place
  least_none zero h = refl
  least_none (suc n) h = rw (least_none n (λ q l. h q (omega arith)), h n (omega arith))

  least_is : (n p : ℕ) → p < n → P (get_or cut p 0) ≡ true → ((q : ℕ) → q < p → P (get_or cut q 0) ≡ false) → least_place cut n P ≡ some (get_or cut p 0)
  unfolding least_place
  least_is zero p l e h = absurd (not-suc-le-zero l)
  least_is (suc n) p l e h = go (λ g. least_is n p g e h) (ℕ_discrete p n)
    where
      go : (p < n → least_place cut n P ≡ some (get_or cut p 0)) → Dec (p ≡ n)
          → or_else (least_place cut n P) (pick (P (get_or cut n 0)) (some (get_or cut n 0)) none) ≡ some (get_or cut p 0)
      go f (yes q) = rw (least_none n (λ j g. h j (omega arith)), sym (ap (λ (x : ℕ). P (get_or cut x 0)) q) ∙ e, q)
      go f (no q) = rw (f (omega arith))

  count_more : (p : ℕ) → count_place cut (p + 1) P ≡ count_place cut p P + pick (P (get_or cut p 0)) (width cut p) 0
  unfolding count_place
  count_more p = rw add-one

  -- at most all addresses below a place have P
  count_most : {t n : ℕ} → Cuts t cut n → (p : ℕ) → p ≤ n → count_place cut p P ≤ get_or cut p 0
  unfolding count_place
  count_most w zero h = omega arith
  count_most w (suc p) h = go (P (get_or cut p 0)) (count_most w p (omega arith)) (w.up p (suc p) (omega arith) h)
    where
      go : (t : Bool) → count_place cut p P ≤ get_or cut p 0 → get_or cut p 0 < get_or cut (suc p) 0
          → count_place cut p P + pick t (get_or cut (suc p) 0 - get_or cut p 0) 0 ≤ get_or cut (suc p) 0
      go true a b = omega arith
      go false a b = omega arith

-- ---- what code asks of the atoms

-- the next links for the atom at place p, as code reads them
abbrev pub links_at : List ℕ → List ℕ → ℕ → ℕ → Option ℕ
links_at number owner p = next_in owner (get_or number p 0)

-- no node below n lies on a circle
abbrev pub NoCircle : (ℕ → Option ℕ) → (ℕ → ℕ) → ℕ → ℕ → Type 0
NoCircle next end nodes n = (u : ℕ) → u < n → on_circle next end nodes u ≡ false

-- at no place below n the walk from v comes to w
abbrev pub NotCome : List ℕ → List ℕ → List ℕ → ℕ → ℕ → ℕ → ℕ → Type 0
NotCome link number owner nodes v w n = (q : ℕ) → q < n → comes_to (links_at number owner q) (end_in link) nodes v w ≡ false

-- the counts from node v of the addresses below place p
pub record Tallied (m : State) (v p o l r : ℕ) : Type 0 where
  pub out : o ≡ count_place m.atoms.cut p (λ a. is_out (fate_of m v a))
  pub lost : l ≡ count_place m.atoms.cut p (λ a. is_lost (fate_of m v a))
  pub round : r ≡ count_place m.atoms.cut p (λ a. is_round (fate_of m v a))

module _ (m : State) (label owner : List ℕ) (W : Whole m label owner) where
  -- ---- the tables at an address

  pub small_atom : (p : ℕ) → p < m.atoms.count → get_or m.atoms.number p 0 < 512
  small_atom p h = omega (arith, W.sound.numbers.small p h, W.sound.cuts.room)

  pub ends_of : Ends m.plan.link owner
  ends_of = record {
    inside = λ k v hk hv n l.
        let e = via_named (owner_in owner k v) n in
        let r : (end_in m.plan.link (owner_in owner k v / 512 % 64) < 256 → end_in m.plan.link (owner_in owner k v / 512 % 64) < m.plan.nodes) = rw e at (ends_in m label owner W k v hk hv n).1 in
        omega (arith, r l, W.sound.laid.small);
  }

  pub fate_at : (v a p : ℕ) → Holds m.atoms.cut m.atoms.count a p → fate_in (links_at m.atoms.number owner p) (end_in m.plan.link) m.plan.nodes 0 v ≡ fate_of m v a
  unfolding fate_of
  fate_at v a p h = rw (next_is m label owner W a p h, end_is m)

  links_are : (p : ℕ) → p < m.atoms.count → links_at m.atoms.number owner p ≡ next_at m (get_or m.atoms.cut p 0)
  links_are p h = next_is m label owner W (get_or m.atoms.cut p 0) p (lower_holds W.sound.cuts p h)

  places : (q : Question) → by_address m q ≡ by_place m q
  places = by_place_lem m W.sound.cuts W.sound.aligned

  -- ---- loop

  module _ (p : ℕ) (h : p < m.atoms.count) where
    circle_same : (u : ℕ) → on_circle (links_at m.atoms.number owner p) (end_in m.plan.link) m.plan.nodes u ≡ on_circle (next_at m (get_or m.atoms.cut p 0)) (end_of m) m.plan.nodes u
    circle_same u = rw (links_are p h, end_is m)

    -- where no node lies on a circle, no walk goes round
    no_loop : NoCircle (links_at m.atoms.number owner p) (end_in m.plan.link) m.plan.nodes m.plan.nodes → loops_at m (get_or m.atoms.cut p 0) ≡ false
    no_loop f = go (loops_at m (get_or m.atoms.cut p 0)) refl
      where
        go : (t : Bool) → loops_at m (get_or m.atoms.cut p 0) ≡ t → t ≡ false
        go false e = refl
        go true e = absurd (loop_circle m W.sound (get_or m.atoms.cut p 0) e (unfold circle_at in lowest_off _ m.plan.nodes (λ u l. sym (circle_same u) ∙ f u l)))

    -- where a node lies on a circle, its walk goes round
    some_loop : (v : ℕ) → v < m.plan.nodes → on_circle (links_at m.atoms.number owner p) (end_in m.plan.link) m.plan.nodes v ≡ true → loops_at m (get_or m.atoms.cut p 0) ≡ true
    unfolding loops_at
    some_loop v l e =
        let f = next_at m (get_or m.atoms.cut p 0) in
        let c = closed_in m W.sound (get_or m.atoms.cut p 0) in
        let o = (circle_is f (end_of m) m.plan.nodes c v l).0 (sym (circle_same v) ∙ e) in
        any_true _ m.plan.nodes v l ((round_is f (end_of m) m.plan.nodes c v l).1 (circle_never f (end_of m) v o))

  pub loop_none : ((p : ℕ) → p < m.atoms.count → NoCircle (links_at m.atoms.number owner p) (end_in m.plan.link) m.plan.nodes m.plan.nodes) → by_address m loop ≡ NoLoop
  unfolding by_place asked loop_from
  loop_none f = places loop ∙ ap (loop_from m) (least_none m.atoms.cut (loops_at m) m.atoms.count (λ p h. no_loop p h (f p h)))

  -- THE SEARCH: the first place with a node on a circle, and the first such node there
  pub loop_is : (p v : ℕ) → p < m.atoms.count → v < m.plan.nodes → ((q : ℕ) → q < p → NoCircle (links_at m.atoms.number owner q) (end_in m.plan.link) m.plan.nodes m.plan.nodes)
      → NoCircle (links_at m.atoms.number owner p) (end_in m.plan.link) m.plan.nodes v → on_circle (links_at m.atoms.number owner p) (end_in m.plan.link) m.plan.nodes v ≡ true
      → by_address m loop ≡ Loop (get_or m.atoms.cut p 0) v
  unfolding by_place asked loop_from some_node circle_at
  loop_is p v h l before f e =
      places loop
      ∙ ap (loop_from m) (least_is m.atoms.cut (loops_at m) m.atoms.count p h (some_loop p h v l e) (λ q g. no_loop q (omega arith) (before q g)))
      ∙ ap (some_node (get_or m.atoms.cut p 0)) (lowest_first _ m.plan.nodes v l (sym (circle_same p h v) ∙ e) (λ u g. sym (circle_same p h u) ∙ f u g))

  -- ---- reach

  module _ (v w : ℕ) where
    comes_same : (p : ℕ) → p < m.atoms.count → comes_to (links_at m.atoms.number owner p) (end_in m.plan.link) m.plan.nodes v w ≡ reaches_at m v w (get_or m.atoms.cut p 0)
    unfolding reaches_at
    comes_same p h = rw (links_are p h, end_is m)

    pub reach_none : NotCome m.plan.link m.atoms.number owner m.plan.nodes v w m.atoms.count → by_address m (reach v w) ≡ No
    unfolding by_place asked reach_from
    reach_none f = places (reach v w) ∙ ap reach_from (least_none m.atoms.cut (reaches_at m v w) m.atoms.count (λ p h. sym (comes_same p h) ∙ f p h))

    pub reach_is : (p : ℕ) → p < m.atoms.count → NotCome m.plan.link m.atoms.number owner m.plan.nodes v w p → comes_to (links_at m.atoms.number owner p) (end_in m.plan.link) m.plan.nodes v w ≡ true → by_address m (reach v w) ≡ Yes (get_or m.atoms.cut p 0)
    unfolding by_place asked reach_from
    reach_is p h f e =
        places (reach v w)
        ∙ ap reach_from (least_is m.atoms.cut (reaches_at m v w) m.atoms.count p h (sym (comes_same p h) ∙ e) (λ q g. sym (comes_same q (omega arith)) ∙ f q g))

  -- ---- tally

  module _ (v p out lost round : ℕ) where
    -- the counts so far leave room for the next place's addresses
    pub tally_fits : p < m.atoms.count → Tallied m v p out lost round
        → (out + width m.atoms.cut p ≤ top m) × (lost + width m.atoms.cut p ≤ top m) × (round + width m.atoms.cut p ≤ top m)
    tally_fits h T =
        let w = W.sound.cuts in
        let f : (P : ℕ → Bool) → count_place m.atoms.cut p P + width m.atoms.cut p ≤ top m = λ P.
        omega (arith, count_most m.atoms.cut P w p (omega arith), w.up p (p + 1) (omega arith) (omega arith), cut_top w (p + 1) (omega arith)) in
        (omega (arith, T.out, f (λ a. is_out (fate_of m v a))), omega (arith, T.lost, f (λ a. is_lost (fate_of m v a))), omega (arith, T.round, f (λ a. is_round (fate_of m v a))))

    -- one place more
    pub tally_more : p < m.atoms.count → Tallied m v p out lost round → (f : Fate) → f ≡ fate_in (links_at m.atoms.number owner p) (end_in m.plan.link) m.plan.nodes 0 v
        → Tallied m v (p + 1) (out + pick (is_out f) (width m.atoms.cut p) 0) (lost + pick (is_lost f) (width m.atoms.cut p) 0) (round + pick (is_round f) (width m.atoms.cut p) 0)
    tally_more h T f e =
        let q : f ≡ fate_of m v (get_or m.atoms.cut p 0) = e ∙ fate_at v (get_or m.atoms.cut p 0) p (lower_holds W.sound.cuts p h) in
        record {
          out = rw (q, T.out) (sym (count_more m.atoms.cut (λ a. is_out (fate_of m v a)) p));
          lost = rw (q, T.lost) (sym (count_more m.atoms.cut (λ a. is_lost (fate_of m v a)) p));
          round = rw (q, T.round) (sym (count_more m.atoms.cut (λ a. is_round (fate_of m v a)) p));
        }

  pub tally_is : (v out lost round : ℕ) → Tallied m v m.atoms.count out lost round → by_address m (tally v) ≡ Tally out lost round
  unfolding by_place asked
  tally_is v out lost round T = places (tally v) ∙ rw (T.out, T.lost, T.round)

pub tally_none : (m : State) (v : ℕ) → Tallied m v 0 0 0 0
unfolding count_place
tally_none m v = record { out = refl; lost = refl; round = refl }
