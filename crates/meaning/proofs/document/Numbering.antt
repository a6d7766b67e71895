-- How atoms are numbered: atom 0 starts at address 0; where an address becomes a boundary, the atom that it splits keeps its number below it,
-- the part from it on takes the next number, and every other atom keeps its own; so an accepted insert numbers the atom at its lower end first.
-- Assumes nothing.
use mathlib.Core.Path.{◌≡◌, refl, sym, ap, ◌∙◌, subst}
use mathlib.Core.Bool.{Bool, true, false}
use mathlib.Core.Option.{none}
use mathlib.Core.List.{List}
use Prim.Native.Nat.{ℕ, ◌+◌, ◌≤◌, ◌<◌}
use native.Mathlib.Decide.{ℕ_discrete}
use native.Mathlib.Omega.{arith}
use lib.ListN.{get_or}
use borrow.Author.Tests.{eqb-true}
use Rattle.meaning.specs.Search.{pick}
use Rattle.meaning.specs.Hall.{top, State, empty}
use Rattle.meaning.specs.Rule.{rule_word, lower, upper, span}
use Rattle.meaning.specs.Atoms.{place_of, is_cut, insert_at, split_cut, split_number, split_count, with_cut, is_boundary, next_number}
use Rattle.meaning.specs.Records.{Update, insert, remove, Sort, set_up, update, question}
use Rattle.meaning.specs.Step.{update_refusal, with_rule, inserted, updated, leaves}
use Rattle.meaning.specs.Run.{Came}
use Rattle.meaning.specs.Tables.{Sound}
use Rattle.meaning.proofs.base.InsertAt.{insert_below, insert_same, insert_next}
use Rattle.meaning.proofs.base.Order.{Order, less, same, more, order}
use Rattle.meaning.proofs.atoms.Cuts.{cut_top}
use Rattle.meaning.proofs.atoms.Splits.{starts, within, ends, boundary_is, is_boundary_lem, split_has, split_keeps, cut_old}
use Rattle.meaning.proofs.records.Fields.{Sized}
use Rattle.meaning.proofs.rules.Words.{lower_of, upper_of}
use Rattle.meaning.proofs.sound.Sound.{came_keeps}
use Rattle.meaning.proofs.records.Checks.{clear}
use Rattle.meaning.proofs.sound.Kept.{rule_fits, RoomForEnds, room_for, room_lower, keeps_lower, count_lower, room_upper}
use Rattle.meaning.proofs.document.Atoms.{InAtom, atom_of, place_is, places_agree}
use Rattle.meaning.proofs.document.Boundaries.{same_cut}

-- ---- one boundary more

module _ (m : State) (S : Sound m) (b : ℕ) (bt : b ≤ top m) (new : is_boundary m b ≡ false) (room : m.atoms.count < 512) where
  abbrev n : ℕ
  n = m.atoms.count

  abbrev p : ℕ
  p = place_of m.atoms.cut n b

  abbrev cut' : List ℕ
  cut' = insert_at (p + 1) b m.atoms.cut

  abbrev number' : List ℕ
  number' = insert_at (p + 1) n m.atoms.number

  pn : p < n
  pn = within S.cuts bt new

  -- an atom of the new tables is one of the new state
  made : (k a q : ℕ) → q < n + 1 → get_or cut' q 0 ≤ a → a < get_or cut' (q + 1) 0 → get_or number' q 0 ≡ k → InAtom (with_cut m b) k a
  unfolding with_cut split_cut split_number split_count
  made k a q h f g e = rw new (record { place = q; holds = record { within = h; from = f; below = g }; number = e })

  below_cut : (q : ℕ) → q ≤ p → get_or cut' q 0 ≡ get_or m.atoms.cut q 0
  below_cut q h = insert_below (p + 1) b q m.atoms.cut (omega arith)

  here_cut : get_or cut' (p + 1) 0 ≡ b
  here_cut = insert_same (p + 1) b m.atoms.cut (omega (arith, pn, S.cuts.long))

  above_cut : (q : ℕ) → p < q → q ≤ n → get_or cut' (q + 1) 0 ≡ get_or m.atoms.cut q 0
  above_cut q h k = insert_next (p + 1) b q m.atoms.cut (omega arith) (omega (arith, S.cuts.long))

  below_number : (q : ℕ) → q ≤ p → get_or number' q 0 ≡ get_or m.atoms.number q 0
  below_number q h = insert_below (p + 1) n q m.atoms.number (omega arith)

  here_number : get_or number' (p + 1) 0 ≡ n
  here_number = insert_same (p + 1) n m.atoms.number (omega (arith, pn, S.numbers.long))

  above_number : (q : ℕ) → p < q → q < n → get_or number' (q + 1) 0 ≡ get_or m.atoms.number q 0
  above_number q h k = insert_next (p + 1) n q m.atoms.number (omega arith) (omega (arith, S.numbers.long))

  -- an atom at another place than b's keeps its number
  elsewhere : (k a : ℕ) (x : InAtom m k a) → Order x.place p → (x.place ≡ p → ⊥) → InAtom (with_cut m b) k a
  elsewhere k a x (less g) f =
      made k a x.place (omega (arith, pn)) (omega (arith, below_cut x.place (omega arith), x.holds.from)) (omega (arith, below_cut (x.place + 1) (omega arith), x.holds.below))
      (below_number x.place (omega arith) ∙ x.number)
  elsewhere k a x (same g) f = absurd (f g)
  elsewhere k a x (more g) f =
      made k a (x.place + 1) (omega (arith, x.holds.within)) (omega (arith, above_cut x.place g (omega (arith, x.holds.within)), x.holds.from))
      (omega (arith, above_cut (x.place + 1) (omega arith) (omega (arith, x.holds.within)), x.holds.below))
      (above_number x.place g x.holds.within ∙ x.number)

  module _ (k : ℕ) (here : InAtom m k b) where
    at_p : here.place ≡ p
    at_p = place_is m S k b here

    in_p : (a : ℕ) (x : InAtom m k a) → x.place ≡ p
    in_p a x = places_agree m S k b a here x ∙ at_p

    -- THE LAW OF A SPLIT: of the atom that b lies in, the addresses below b keep its number, and those from b on take the next
    pub split_lower : (a : ℕ) → InAtom m k a → a < b → InAtom (with_cut m b) k a
    split_lower a x h =
        let e = in_p a x in
        made k a p (omega (arith, pn)) (omega (arith, below_cut p (omega arith), ap (λ (q : ℕ). get_or m.atoms.cut q 0) e, x.holds.from)) (omega (arith, here_cut))
        (below_number p (omega arith) ∙ sym (ap (λ (q : ℕ). get_or m.atoms.number q 0) e) ∙ x.number)

    pub split_upper : (a : ℕ) → InAtom m k a → b ≤ a → InAtom (with_cut m b) (next_number m.atoms) a
    split_upper a x h =
        let e = in_p a x in
        made n a (p + 1) (omega (arith, pn)) (omega (arith, here_cut))
        (omega (arith, above_cut (p + 1) (omega arith) (omega (arith, pn)), ap (λ (q : ℕ). get_or m.atoms.cut (q + 1) 0) e, x.holds.below)) here_number

    -- and every other atom keeps its number
    pub split_other : (j a : ℕ) → InAtom m j a → (j ≡ k → ⊥) → InAtom (with_cut m b) j a
    split_other j a x f = elsewhere j a x (order x.place p) (λ e. f (sym x.number ∙ ap (λ (q : ℕ). get_or m.atoms.number q 0) (e ∙ sym at_p) ∙ here.number))

-- ---- a boundary's atom

module _ (m : State) (S : Sound m) (b : ℕ) (bt : b ≤ top m) (room : is_boundary m b ≡ false → m.atoms.count < 512) where
  -- where b is made a boundary it lies in an atom, which it splits
  split_at : is_boundary m b ≡ false → InAtom m (get_or m.atoms.number (place_of m.atoms.cut m.atoms.count b) 0) b
  split_at e = atom_of m S b (omega (arith, ends S.cuts bt e, cut_top S.cuts (place_of m.atoms.cut m.atoms.count b + 1) (omega (arith, within S.cuts bt e))))

  -- the atom that starts at a new boundary has the next number
  start_new : is_boundary m b ≡ false → InAtom (with_cut m b) (next_number m.atoms) b
  start_new e = split_upper m S b bt e (room e) _ (split_at e) b (split_at e) (omega arith)

  -- and the atom that starts at an old one keeps its number
  start_old : (x k : ℕ) → is_boundary m x ≡ true → InAtom m k x → InAtom (with_cut m b) k x
  start_old x k f h = go (is_boundary m b) refl
    where
      lower_end : get_or m.atoms.cut (place_of m.atoms.cut m.atoms.count x) 0 ≡ x
      lower_end = unfold is_cut in eqb-true _ _ f

      -- x is the lower end of its atom, so it lies below the b that splits the atom
      under : is_boundary m b ≡ false → h.place ≡ place_of m.atoms.cut m.atoms.count b → x < b
      under e q = omega (arith, lower_end, ap (λ (p : ℕ). get_or m.atoms.cut p 0) (sym (place_is m S k x h) ∙ q), starts S.cuts bt e)

      other : (e : is_boundary m b ≡ false) → Dec (k ≡ get_or m.atoms.number (place_of m.atoms.cut m.atoms.count b) 0) → InAtom (with_cut m b) k x
      other e (yes q) =
          let z : InAtom m k b = subst (λ (j : ℕ). InAtom m j b) (sym q) (split_at e) in
          split_lower m S b bt e (room e) k z x h (under e (places_agree m S k b x z h ∙ place_is m S k b z))
      other e (no q) = split_other m S b bt e (room e) _ (split_at e) k x h q

      go : (t : Bool) → is_boundary m b ≡ t → InAtom (with_cut m b) k x
      go true e = rw (cut_old m b e) h
      go false e = other e (ℕ_discrete k _)

-- ---- an accepted insert

-- how an insert with these ends numbers the atoms of the state that it leaves: the atom that starts at its lower end takes the next number,
-- where that is a new boundary; then the same for its upper end; and the atoms that start at an old boundary keep theirs
pub record InsertNumbers (m left : State) (from to : ℕ) : Type 0 where
  pub lower_takes : is_boundary m from ≡ false → InAtom left (next_number m.atoms) from
  pub upper_takes : is_boundary m to ≡ false → InAtom left (next_number m.atoms + pick (is_boundary m from) 0 1) to
  pub others_keep : (b k : ℕ) → is_boundary m b ≡ true → InAtom m k b → InAtom left k b

module _ (m : State) (S : Sound m) (w : ℕ) (R : RoomForEnds m w) (same : is_cut (with_cut m (lower m.width w)).atoms.cut (with_cut m (lower m.width w)).atoms.count (upper m.width w) ≡ is_boundary m (upper m.width w)) where
  abbrev M : State
  M = with_cut m (lower m.width w)

  still_cut : (b : ℕ) → is_boundary m b ≡ true → is_boundary M b ≡ true
  still_cut b e = boundary_is (keeps_lower m S w R).cuts b (unfold with_cut in split_keeps (top m) m.atoms.cut m.atoms.count (lower m.width w) S.cuts R.lower_top (room_lower m S w R) b (is_boundary_lem m.atoms.cut m.atoms.count b e))

  then_old : (b k : ℕ) → is_boundary M b ≡ true → InAtom M k b → InAtom (with_cut M (upper m.width w)) k b
  unfolding with_cut
  then_old = start_old M (keeps_lower m S w R) (upper m.width w) R.upper_top (room_upper m S w R)

  -- the rule's word changes no atom
  rule_apart : (r k a : ℕ) → InAtom (with_cut M (upper m.width w)) k a → InAtom (inserted m r w) k a
  unfolding inserted with_rule
  rule_apart r k a x = record { place = x.place; holds = x.holds; number = x.number }

  both_numbers : (r : ℕ) → InsertNumbers m (inserted m r w) (lower m.width w) (upper m.width w)
  unfolding with_cut
  both_numbers r = record {
    lower_takes = λ e.
        rule_apart r _ _ (then_old (lower m.width w) m.atoms.count (boundary_is (keeps_lower m S w R).cuts (lower m.width w) (unfold with_cut in split_has (top m) m.atoms.cut m.atoms.count (lower m.width w) S.cuts R.lower_top (room_lower m S w R)))
        (start_new m S (lower m.width w) R.lower_top (room_lower m S w R) e));
    upper_takes = λ e. rw (← count_lower m S w R) (rule_apart r _ _ (start_new M (keeps_lower m S w R) (upper m.width w) R.upper_top (room_upper m S w R) (same ∙ e)));
    others_keep = λ b k e h. rule_apart r _ _ (then_old b k (still_cut b e) (start_old m S (lower m.width w) R.lower_top (room_lower m S w R) b k e h));
  }

-- THE LAW: an accepted insert numbers the atoms so
pub insert_numbers : (m : State) → Sound m → (r l p n t : ℕ) → Sized m.width l p t → update_refusal m (insert r l p n t) ≡ none
    → InsertNumbers m (updated m (insert r l p n t)) p (p + span m.width n)
unfolding updated
insert_numbers m S r l p n t F ok =
    let C = clear m r l p n t ok in
    let numbers : ℕ → ℕ → Type 0 = InsertNumbers m (updated m (insert r l p n t)) in
    subst (λ (x : ℕ). numbers x (p + span m.width n)) (lower_of (rule_fits S F C)) (subst (numbers (lower m.width (rule_word m.width l p n t))) (upper_of (rule_fits S F C))
    (both_numbers m S (rule_word m.width l p n t) (room_for m S F C) (same_cut m S r l p n t F C) r))

-- ---- atom 0

first_kept : (cut number : List ℕ) (n k b : ℕ) → get_or (split_number cut number n k b) 0 0 ≡ get_or number 0 0
unfolding split_number
first_kept cut number n k b = go (is_cut cut n b)
  where
    go : (t : Bool) → get_or (pick t number (insert_at (place_of cut n b + 1) k number)) 0 0 ≡ get_or number 0 0
    go true = refl
    go false = insert_below (place_of cut n b + 1) k 0 number (omega arith)

first_update : (m : State) (u : Update) → get_or m.atoms.number 0 0 ≡ 0 → get_or (updated m u).atoms.number 0 0 ≡ 0
unfolding updated inserted with_rule with_cut
first_update m (insert r l p n t) h = first_kept _ _ _ _ _ ∙ first_kept _ _ _ _ _ ∙ h
first_update m (remove r) h = h

first_zero : (m : State) (r : Sort) → get_or m.atoms.number 0 0 ≡ 0 → get_or (leaves m r).atoms.number 0 0 ≡ 0
unfolding leaves
first_zero m (set_up u) h = h
first_zero m (update u) h = first_update m u h
first_zero m (question q) h = h

-- THE LAW: after any records the atom that starts at 0 is atom 0
pub first_atom : (m : State) → Came m → get_or m.atoms.number 0 0 ≡ 0
unfolding empty
first_atom = came_keeps (λ m. get_or m.atoms.number 0 0 ≡ 0) refl (λ m r h f ph ok. first_zero m r h)
