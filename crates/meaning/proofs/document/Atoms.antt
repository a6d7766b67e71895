-- The atoms after any records: each address lies in exactly one, their numbers are those below the counter, the winners are constant on each,
-- and an atom is on a link exactly when, for each of its addresses, the winner at the link's source names the link.
-- What is asked of a label itself: how many atoms are on the link, and which is the lowest-numbered. Assumes nothing.
use mathlib.Core.Path.{◌≡◌, refl, sym, ap, ◌∙◌}
use mathlib.Core.Logic.{◌↔◌, ⊎_elim}
use mathlib.Core.Bool.{true, false, true≢false}
use mathlib.Core.Option.{Option, none, some}
use mathlib.Core.List.{List}
use Prim.Native.Nat.{ℕ, ◌+◌, ◌≤◌, ◌<◌}
use native.Mathlib.Numerals.{add-one}
use native.Mathlib.Omega.{arith}
use lib.ListN.{get_or}
use borrow.Author.Tests.{eqb-true, eq-eqb, lt-ltb, le-ltb}
use Rattle.meaning.specs.Search.{lowest_below, count_below}
use Rattle.meaning.specs.Hall.{top, State, source_of}
use Rattle.meaning.specs.Winner.{winner, next_at}
use Rattle.meaning.specs.Atoms.{place_of}
use Rattle.meaning.specs.Labels.{on, names, is_on, labels_of, how_many, lowest_on}
use Rattle.meaning.specs.Working.{owners_of}
use Rattle.meaning.specs.Run.{Came}
use Rattle.meaning.specs.declared.hall.Hall.{Hall}
use Rattle.meaning.specs.Box.{HeldBy, Held, AtomsHeld}
use Rattle.meaning.specs.Tables.{Holds, Sound}
use Rattle.meaning.proofs.base.Search.{count_same, count_until, lowest_agree}
use Rattle.meaning.proofs.base.Order.{le_or_lt}
use Rattle.meaning.proofs.atoms.Cuts.{place_holds, holds_place, lower_holds, cut_top}
use Rattle.meaning.proofs.atoms.Numbers.{has_place, on_without, one_place}
use Rattle.meaning.proofs.atoms.Constant.{same_winner, same_next}
use Rattle.meaning.proofs.atoms.Labels.{labels_on, on_place}

-- address a lies in atom k: some place holds a, and k is the number there
pub record InAtom (m : State) (k a : ℕ) : Type 0 where
  pub place : ℕ
  pub holds : Holds m.atoms.cut m.atoms.count a place
  pub number : get_or m.atoms.number place 0 ≡ k

-- ---- of any sound state

module _ (m : State) (S : Sound m) where
  pub atom_of : (a : ℕ) → a < top m → InAtom m (get_or m.atoms.number (place_of m.atoms.cut m.atoms.count a) 0) a
  atom_of a h = record { place = place_of m.atoms.cut m.atoms.count a; holds = place_holds S.cuts a h; number = refl }

  -- an atom's place
  pub place_is : (k a : ℕ) (x : InAtom m k a) → x.place ≡ place_of m.atoms.cut m.atoms.count a
  place_is k a x = holds_place S.cuts x.holds

  -- two addresses of one atom lie in one place
  pub places_agree : (k a b : ℕ) (x : InAtom m k a) (y : InAtom m k b) → y.place ≡ x.place
  places_agree k a b x y = one_place S.numbers y.place x.place y.holds.within x.holds.within (y.number ∙ sym x.number)

  -- the ways of an address are those of its place's lower end
  pub ways_from : (k a : ℕ) (x : InAtom m k a) → next_at m a ≡ next_at m (get_or m.atoms.cut x.place 0)
  ways_from k a x = same_next m S.cuts S.aligned x.place a x.holds.within x.holds.from (rw add-one at x.holds.below)

  -- and the winners there are its winners
  pub constant_in : (v p a : ℕ) → Holds m.atoms.cut m.atoms.count a p → winner m v a ≡ winner m v (get_or m.atoms.cut p 0)
  constant_in v p a h = same_winner m S.cuts S.aligned p a h.within h.from (rw add-one at h.below) v

  -- the atom of an address is on a link just where the link is named for that address
  pub on_each : (l k a : ℕ) → InAtom m k a → is_on m l k ≡ names (next_at m a (source_of m l)) l
  on_each l k a x =
      ap (is_on m l) (sym x.number) ∙ on_place m S.numbers l x.place x.holds.within
      ∙ ap (λ (f : ℕ → Option ℕ). names (f (source_of m l)) l) (sym (ways_from k a x))

  -- an atom has an address: the lower end of its place
  pub atom_has : (k : ℕ) → k < m.atoms.count → (a : ℕ) × InAtom m k a
  atom_has k h =
      let r = has_place S.numbers k h in
      (get_or m.atoms.cut r.0 0, record { place = r.0; holds = lower_holds S.cuts r.0 r.1; number = r.2 })

-- ---- the atoms of a sound state

module _ (m : State) (S : Sound m) where
  -- each address lies in an atom
  pub covered : (a : ℕ) → a < top m → (k : ℕ) × InAtom m k a
  covered a h = (_, atom_of m S a h)

  -- and in no other
  pub covered_once : (a j k : ℕ) → InAtom m j a → InAtom m k a → j ≡ k
  covered_once a j k x y =
      sym x.number ∙ ap (λ (p : ℕ). get_or m.atoms.number p 0) (place_is m S j a x ∙ sym (place_is m S k a y)) ∙ y.number

  -- and an atom holds nothing but addresses
  pub covered_only : (k a : ℕ) → InAtom m k a → a < top m
  covered_only k a x = omega (arith, x.holds.below, cut_top S.cuts (x.place + 1) (omega (arith, x.holds.within)))

  -- there are at most 512 atoms; their numbers are exactly those below the counter, and each is one place's
  pub few_atoms : m.atoms.count ≤ 512
  few_atoms = S.cuts.room

  pub numbered : (k : ℕ) → (k < m.atoms.count) ↔ ((a : ℕ) × InAtom m k a)
  numbered k = (atom_has m S k, λ x. let y = x.1 in omega (arith, y.number, S.numbers.small y.place y.holds.within))

  pub one_number : (p q : ℕ) → p < m.atoms.count → q < m.atoms.count → get_or m.atoms.number p 0 ≡ get_or m.atoms.number q 0 → p ≡ q
  one_number = one_place S.numbers

  -- the winner at each node is the same for all addresses of an atom
  pub winner_constant : (v k a b : ℕ) → InAtom m k a → InAtom m k b → winner m v a ≡ winner m v b
  winner_constant v k a b x y =
      constant_in m S v x.place a x.holds ∙ ap (λ (p : ℕ). winner m v (get_or m.atoms.cut p 0)) (sym (places_agree m S k a b x y)) ∙ sym (constant_in m S v y.place b y.holds)

  -- THE LAW OF LABELS: atom k is on link l exactly when for each of its addresses the winner at l's source names l
  pub on_link : (l k : ℕ) → k < m.atoms.count → (is_on m l k ≡ true) ↔ ((a : ℕ) → InAtom m k a → next_at m a (source_of m l) ≡ some l)
  unfolding names
  on_link l k h = (λ e a x. named (next_at m a (source_of m l)) (sym (on_each m S l k a x) ∙ e), λ f. let x = atom_has m S k h in on_each m S l k x.0 x.1 ∙ names_it (f x.0 x.1))
    where
      named : (o : Option ℕ) → names o l ≡ true → o ≡ some l
      named none e = absurd (true≢false (sym e))
      named (some j) e = ap some (eqb-true j l e)

      names_it : {o : Option ℕ} → o ≡ some l → names o l ≡ true
      names_it e = ap (λ (o : Option ℕ). names o l) e ∙ eq-eqb l l refl

  -- what is no atom is on no link
  pub no_atom : (l k : ℕ) → m.atoms.count ≤ k → is_on m l k ≡ false
  no_atom = on_without m S.numbers

  -- the same of the labels' words: bit k of link l's eight words
  pub on_words : (l k : ℕ) → l < 64 → k < m.atoms.count → (on (labels_of m) l k ≡ true) ↔ ((a : ℕ) → InAtom m k a → next_at m a (source_of m l) ≡ some l)
  on_words l k hl hk = let e = labels_on m l k hl (omega (arith, few_atoms)) in (λ f. (on_link l k hk).0 (sym e ∙ f), λ f. e ∙ (on_link l k hk).1 f)

  pub no_bit : (l k : ℕ) → l < 64 → m.atoms.count ≤ k → k < 512 → on (labels_of m) l k ≡ false
  no_bit l k hl h hk = labels_on m l k hl hk ∙ no_atom l k h

-- a state that came by records is held with its labels and its owners
pub held_of : (m : State) → Came m → Held m (labels_of m) (owners_of m)
held_of m c = record { came = c; labels = refl; owners = refl }

-- the premise where only the atoms are lent holds of every hall that is held
pub atoms_held : (h : Hall) → HeldBy h → AtomsHeld h.atoms
atoms_held h x = record { hall = h; held = x; is = refl }

-- ---- how many atoms a link has, and the lowest-numbered one, asked of the label itself

-- there are no links but 64
pub no_label : (label : List ℕ) (l : ℕ) → 64 ≤ l → (how_many label l ≡ 0) × (lowest_on label l ≡ none)
unfolding how_many lowest_on
no_label label l h = rw (le-ltb l 64 h) (refl, refl)

module _ (m : State) (S : Sound m) (l : ℕ) (hl : l < 64) where
  -- THE LAW: a link has as many atoms as are on it
  pub how_many_lem : how_many (labels_of m) l ≡ count_below m.atoms.count (is_on m l)
  unfolding how_many
  how_many_lem =
      rw (lt-ltb l 64 hl)
      (count_same (on (labels_of m) l) (is_on m l) 512 (λ k h. labels_on m l k hl h) ∙ count_until (is_on m l) m.atoms.count 512 (few_atoms m S) (λ k h g. no_atom m S l k h))

  -- THE LAW: the lowest-numbered one is the lowest that is on it, and there is none where none is
  pub lowest_numbered : lowest_on (labels_of m) l ≡ lowest_below m.atoms.count (is_on m l)
  unfolding lowest_on
  lowest_numbered =
      rw (lt-ltb l 64 hl)
      (lowest_agree (on (labels_of m) l) (is_on m l) 512 m.atoms.count
      (λ k h e. let x = sym (labels_on m l k hl h) ∙ e in (on_below k x, x)) (λ k h e. let x : k < 512 = omega (arith, few_atoms m S) in (x, labels_on m l k hl x ∙ e)))
    where
      on_below : (k : ℕ) → is_on m l k ≡ true → k < m.atoms.count
      on_below k e = ⊎_elim (λ (h : m.atoms.count ≤ k). absurd (true≢false (sym e ∙ no_atom m S l k h))) (λ h. h) (le_or_lt m.atoms.count k)
