-- What the winners decide is constant on each atom, so the questions over addresses are those over places.
-- Assumes nothing.
use mathlib.Core.Path.{◌≡◌, refl, sym, ap, ◌∙◌, fun_ext}
use mathlib.Core.Logic.{⊎_elim}
use mathlib.Core.List.{List}
use mathlib.Core.Bool.{Bool, true, false, ◌&&◌}
use mathlib.Core.Option.{Option, none, some}
use Prim.Native.Nat.{ℕ, zero, suc, ◌+◌, ◌-◌, ◌≤◌, ◌<◌}
use native.Mathlib.Nat.{add-zero, add-suc}
use native.Mathlib.Omega.{arith}
use lib.Dec.{leb, ltb, eqb}
use lib.ListN.{get_or}
use borrow.Author.Tests.{lt-ltb, le-ltb, le-leb, lt-leb}
use Rattle.meaning.specs.Search.{pick, or_else, any_below, lowest_below, count_below}
use Rattle.meaning.specs.Hall.{top, State, end_of}
use Rattle.meaning.specs.Rule.{live, rank, lower, upper, covers}
use Rattle.meaning.specs.Winner.{rule_at, node_for, eligible, winner, link_for, next_at}
use Rattle.meaning.specs.Tables.{Cuts, BoundaryOf, Aligned}
use Rattle.meaning.specs.Walk.{goes_round, comes_to, fate_in}
use Rattle.meaning.specs.Questions.{fate_of, loops_at, loop_from, reaches_at, reach_from, is_out, is_lost, is_round, asked, by_address}
use Rattle.meaning.specs.Working.{least_place, count_place, by_place}
use Rattle.meaning.proofs.atoms.Cuts.{beside}
use Rattle.meaning.proofs.rules.Ranks.{best_ext}
use Rattle.meaning.specs.Records.{Question, loop, fate, reach, tally}

-- P says the same of every address of a place as of the place's lower end
abbrev pub Constant : List ℕ → ℕ → (ℕ → Bool) → Type 0
Constant cut n P = (p a : ℕ) → p < n → get_or cut p 0 ≤ a → a < get_or cut (suc p) 0 → P a ≡ P (get_or cut p 0)

module _ (P : ℕ → Bool) (s : ℕ) where
  -- one more range of w + 1 addresses from s on, on which P is what it is at s
  least_range : (w : ℕ) → ((a : ℕ) → s ≤ a → a < s + suc w → P a ≡ P s)
      → lowest_below (s + suc w) P ≡ or_else (lowest_below s P) (pick (P s) (some s) none)
  unfolding lowest_below
  least_range zero h = rw (add-suc, add-zero)
  least_range (suc w) h =
      rw add-suc
      (rw (h (s + suc w) (omega arith) (omega arith), least_range w (λ a l k. h a l (omega arith))) (again (lowest_below s P) (P s)))
    where
      again : (o : Option ℕ) (t : Bool) → or_else (or_else o (pick t (some s) none)) (pick t (some (s + suc w)) none) ≡ or_else o (pick t (some s) none)
      again (some x) t = refl
      again none true = refl
      again none false = refl

  count_range : (w : ℕ) → ((a : ℕ) → s ≤ a → a < s + w → P a ≡ P s) → count_below (s + w) P ≡ count_below s P + pick (P s) w 0
  unfolding count_below
  count_range zero h = rw add-zero (go (P s))
    where
      go : (t : Bool) → count_below s P ≡ count_below s P + pick t 0 0
      go true = omega arith
      go false = omega arith
  count_range (suc w) h =
      rw add-suc (rw (h (s + w) (omega arith) (omega arith), count_range w (λ a l k. h a l (omega arith))) (go (P s)))
    where
      go : (t : Bool) → count_below s P + pick t w 0 + pick t 1 0 ≡ count_below s P + pick t (suc w) 0
      go true = omega arith
      go false = omega arith

module _ {t : ℕ} {cut : List ℕ} {n : ℕ} (w : Cuts t cut n) (P : ℕ → Bool) (k : Constant cut n P) where
  least_to : (p : ℕ) → p ≤ n → lowest_below (get_or cut p 0) P ≡ least_place cut p P
  unfolding lowest_below least_place
  least_to zero h = rw w.first
  least_to (suc p) h =
      let s = get_or cut p 0 in
      let d = get_or cut (suc p) 0 - s - 1 in
      let e : get_or cut (suc p) 0 ≡ s + suc d = omega (arith, w.up p (suc p) (omega arith) h) in
      ap (λ (t : ℕ). lowest_below t P) e ∙ least_range P s d (λ a l g. k p a h l (omega (arith, e)))
      ∙ ap (λ (o : Option ℕ). or_else o (pick (P s) (some s) none)) (least_to p (omega arith))

  count_to : (p : ℕ) → p ≤ n → count_below (get_or cut p 0) P ≡ count_place cut p P
  unfolding count_below count_place
  count_to zero h = rw w.first
  count_to (suc p) h =
      let s = get_or cut p 0 in
      let d = get_or cut (suc p) 0 - s in
      let e : get_or cut (suc p) 0 ≡ s + d = omega (arith, w.up p (suc p) (omega arith) h) in
      ap (λ (t : ℕ). count_below t P) e ∙ count_range P s d (λ a l g. k p a h l (omega (arith, e)))
      ∙ ap (λ (c : ℕ). c + pick (P s) d 0) (count_to p (omega arith))

  pub least_places : lowest_below t P ≡ least_place cut n P
  least_places = ap (λ (t : ℕ). lowest_below t P) (sym w.last) ∙ least_to n (omega arith)

  pub count_places : count_below t P ≡ count_place cut n P
  count_places = ap (λ (t : ℕ). count_below t P) (sym w.last) ∙ count_to n (omega arith)

module _ (m : State) (w : Cuts (top m) m.atoms.cut m.atoms.count) (al : Aligned m) where
  module _ (p a : ℕ) (pn : p < m.atoms.count) (from : get_or m.atoms.cut p 0 ≤ a) (below : a < get_or m.atoms.cut (suc p) 0) where
    -- no boundary lies between the lower end of a's place and a
    same_from : (x : ℕ) → BoundaryOf m x → leb x a ≡ leb x (get_or m.atoms.cut p 0)
    same_from x b =
        ⊎_elim (λ (h : x ≤ get_or m.atoms.cut p 0). le-leb x a (omega arith) ∙ sym (le-leb x (get_or m.atoms.cut p 0) h))
        (λ (h : a < x). lt-leb x a h ∙ sym (lt-leb x (get_or m.atoms.cut p 0) (omega arith))) (beside w p a x pn below b)

    same_to : (x : ℕ) → BoundaryOf m x → ltb a x ≡ ltb (get_or m.atoms.cut p 0) x
    same_to x b =
        ⊎_elim (λ (h : x ≤ get_or m.atoms.cut p 0). le-ltb a x (omega arith) ∙ sym (le-ltb (get_or m.atoms.cut p 0) x h))
        (λ (h : a < x). lt-ltb a x h ∙ sym (lt-ltb (get_or m.atoms.cut p 0) x (omega arith))) (beside w p a x pn below b)

    same_eligible : (v i : ℕ) → i < 256 → eligible m v a i ≡ eligible m v (get_or m.atoms.cut p 0) i
    unfolding eligible covers
    same_eligible v i l = go (live (rule_at m i)) refl
      where
        go : (t : Bool) → live (rule_at m i) ≡ t
            → (t && (eqb (node_for m (rule_at m i)) v && (leb (lower m.width (rule_at m i)) a && ltb a (upper m.width (rule_at m i)))))
            ≡ (t && (eqb (node_for m (rule_at m i)) v && (leb (lower m.width (rule_at m i)) (get_or m.atoms.cut p 0) && ltb (get_or m.atoms.cut p 0) (upper m.width (rule_at m i)))))
        go true e = rw (same_from (lower m.width (rule_at m i)) (al i l e).0, same_to (upper m.width (rule_at m i)) (al i l e).1)
        go false e = refl

    pub same_winner : (v : ℕ) → winner m v a ≡ winner m v (get_or m.atoms.cut p 0)
    unfolding winner
    same_winner v = best_ext _ _ (λ i. rank m.width (rule_at m i)) 256 (same_eligible v)

    -- so a packet goes the same ways
    pub same_next : next_at m a ≡ next_at m (get_or m.atoms.cut p 0)
    unfolding next_at
    same_next = fun_ext (λ v. ap (link_for m) (same_winner v))

  -- anything that only asks where packets go is constant on each place
  pub constant : (Q : (ℕ → Option ℕ) → Bool) → Constant m.atoms.cut m.atoms.count (λ a. Q (next_at m a))
  constant Q p a pn from below = ap Q (same_next p a pn from below)

  least_next : (Q : (ℕ → Option ℕ) → Bool) → lowest_below (top m) (λ a. Q (next_at m a)) ≡ least_place m.atoms.cut m.atoms.count (λ a. Q (next_at m a))
  least_next Q = least_places w (λ a. Q (next_at m a)) (constant Q)

  count_next : (Q : (ℕ → Option ℕ) → Bool) → count_below (top m) (λ a. Q (next_at m a)) ≡ count_place m.atoms.cut m.atoms.count (λ a. Q (next_at m a))
  count_next Q = count_places w (λ a. Q (next_at m a)) (constant Q)

  -- THE LAW: over addresses and over places the answers are the same
  pub by_place_lem : (q : Question) → by_address m q ≡ by_place m q
  unfolding by_address by_place asked loops_at reaches_at fate_of
  by_place_lem loop = ap (loop_from m) (least_next (λ f. any_below m.plan.nodes (goes_round f (end_of m) m.plan.nodes)))
  by_place_lem (fate v a) = refl
  by_place_lem (reach v w) = ap reach_from (least_next (λ f. comes_to f (end_of m) m.plan.nodes v w))
  by_place_lem (tally v) =
      rw (
        count_next (λ f. is_out (fate_in f (end_of m) m.plan.nodes 0 v)),
        count_next (λ f. is_lost (fate_in f (end_of m) m.plan.nodes 0 v)),
        count_next (λ f. is_round (fate_in f (end_of m) m.plan.nodes 0 v)),
      )
