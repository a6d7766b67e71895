-- An accepted insert followed at once by its own removal: two change lists over the same ranges with old and new link exchanged, and the rules as they were.
-- Assumes nothing.
use mathlib.Core.Path.{◌≡◌, refl, sym, ap, ap₂, ◌∙◌}
use mathlib.Core.Option.{none}
use mathlib.Core.List.{List, [], ◌∷◌, ◌++◌}
use Prim.Native.Nat.{ℕ, ◌≤◌}
use native.Mathlib.Omega.{arith}
use lib.ListN.{length}
use borrow.Author.Tests.{le-ltb, eqb-true, not-false}
use Rattle.meaning.specs.declared.Answer.TheVariants.{Changed}
use Rattle.meaning.specs.declared.Record.TheVariants.{Insert, Remove}
use Rattle.meaning.specs.declared.hall.Phase.TheVariants.{Closed}
use Rattle.meaning.specs.Hall.{State, source_of}
use Rattle.meaning.specs.Rule.{rule_word}
use Rattle.meaning.specs.Changes.{entry_at, entries_at}
use Rattle.meaning.specs.Atoms.{with_cut}
use Rattle.meaning.specs.Questions.{by_address}
use Rattle.meaning.specs.Records.{got, sort_of, update, read_of, phase_of, insert, remove}
use Rattle.meaning.specs.Step.{update_refusal, writes, updated, Done, when, refusal, with_rule, inserted, leaves, node_of, changes, only, answers, accepted, step_with, step_of, list_room}
use Rattle.meaning.specs.Run.{Came}
use Rattle.meaning.specs.Tables.{Sound}
use Rattle.meaning.proofs.records.Begins.{got_once}
use Rattle.meaning.proofs.base.Stages.{stage_once}
use Rattle.meaning.proofs.records.Fields.{FitsUpdate, Fits, Sized}
use Rattle.meaning.proofs.records.Checks.{when_none, Clear, clear}
use Rattle.meaning.proofs.sound.Sound.{came_fits}
use Rattle.meaning.proofs.sound.Kept.{sound}
use Rattle.meaning.proofs.document.Exchange.{exchanged, exchanged_entry, node_there, back_alike}
use Rattle.meaning.proofs.document.Winners.{insert_stores}
use Rattle.meaning.proofs.records.Steps.{Stepped, short, ended, unread, turned, took, stepped, accepts}
use Rattle.meaning.proofs.base.Order.{clash}

-- two change lists over the same atoms and ranges, entry by entry, with old and new link exchanged
pub data Exchanged : List ℕ → List ℕ → Type 0 where
  empty : Exchanged [] []
  entry : (atom lower upper x y : ℕ) {list list' : List ℕ} → Exchanged list list' → Exchanged (atom ∷ lower ∷ upper ∷ x ∷ y ∷ list) (atom ∷ lower ∷ upper ∷ y ∷ x ∷ list')

-- ---- the entries

module _ (m : State) (S : Sound m) (r l p n t : ℕ) (F : Sized m.width l p t) (C : Clear m r l p n t) where
  abbrev there : State
  there = inserted m r (rule_word m.width l p n t)

  one_more : (v q : ℕ) (list list' : List ℕ) → Exchanged list list' → Exchanged (entry_at m there v q ++ list) (entry_at there (with_rule there r 0) v q ++ list')
  one_more v q list list' x = rw (exchanged_entry m S r l p n t F C v q) (unfold entry_at in entry _ _ _ _ _ x)

  entries_exchanged : (v : ℕ) (ps : List ℕ) → Exchanged (entries_at m there v ps) (entries_at there (with_rule there r 0) v ps)
  unfolding entries_at
  entries_exchanged v [] = empty
  entries_exchanged v (q ∷ ps) = one_more v q _ _ (entries_exchanged v ps)

-- ---- the two steps

module _ (m : State) (c : Came m) (room : ℕ) (s s' : List ℕ) (r l p n t i i' j : ℕ) (reads : read_of s ≡ got (Insert r l p n t) i) (then : read_of s' ≡ got (Remove r) i')
    (ok : (step_of m room s).answer ≡ Changed j) where
  -- what the insert leaves and writes, and what its removal, which follows at once, leaves and writes
  abbrev pub first : Done
  first = step_of m room s

  abbrev pub second : Done
  second = step_of first.left room s'

  record Took : Type 0 where
    enough : list_room ≤ room
    phase : m.plan.phase ≡ Closed
    passes : update_refusal m (insert r l p n t) ≡ none
    is : step_of m room s ≡ accepted (by_address m) m i (update (insert r l p n t))

  took_it : Took
  unfolding step_of sort_of phase_of refusal only
  took_it = go _ (stepped (by_address m) m room s) refl ok
    where
      go : (d : Done) → Stepped (by_address m) m room s d → step_with (by_address m) m room (read_of s) ≡ d → d.answer ≡ Changed j → Took
      go d (short h) q e = clash cc
      go d (ended h g) q e = clash cc
      go d (unread k h g o) q e = clash cc
      go d (turned x k' k h g pos f b) q e = clash cc
      go d (took x k h g pos f) q e =
          let a : x ≡ Insert r l p n t = (got_once (sym g ∙ reads)).0 in
          let b : k ≡ i = (got_once (sym g ∙ reads)).1 in
          let y = when_none _ _ _ (rw a at f) in
          record { enough = h; phase = stage_once (eqb-true _ _ (not-false _ y.0)); passes = y.1; is = rw (a, b) at q }

  fit : Sized m.width l p t
  unfolding sort_of Fits FitsUpdate
  fit = came_fits c s (Insert r l p n t) i reads

  free : Clear m r l p n t
  free = clear m r l p n t took_it.passes

  left_is : first.left ≡ updated m (insert r l p n t)
  unfolding accepted leaves
  left_is = ap (λ (d : Done). d.left) took_it.is

  removable : update_refusal (updated m (insert r l p n t)) (remove r) ≡ none
  unfolding update_refusal when
  removable = rw (le-ltb 255 r (omega (arith, free.number)), (insert_stores m (sound m c) r l p n t fit took_it.passes).alive)

  same_phase : (updated m (insert r l p n t)).plan.phase ≡ Closed
  unfolding updated inserted with_rule with_cut
  same_phase = took_it.phase

  second_is : second ≡ accepted (by_address (updated m (insert r l p n t))) (updated m (insert r l p n t)) i' (update (remove r))
  unfolding step_of sort_of phase_of refusal
  second_is = rw left_is (accepts _ _ room s' (Remove r) i' took_it.enough then same_phase removable)

  -- the lists of the two, both over the places that the insert changed
  abbrev there' : State
  there' = inserted m r (rule_word m.width l p n t)

  first_list : first.written ≡ entries_at m there' (source_of m l) (changes m (insert r l p n t))
  unfolding accepted leaves writes updated node_of
  first_list = ap (λ (d : Done). d.written) took_it.is

  second_list : second.written ≡ entries_at there' (with_rule there' r 0) (source_of m l) (changes m (insert r l p n t))
  unfolding accepted leaves writes updated node_of
  second_list =
      ap (λ (d : Done). d.written) second_is
      ∙ ap₂ (entries_at there' (with_rule there' r 0)) (node_there m (sound m c) r l p n t fit free) (exchanged m (sound m c) r l p n t fit free)

  -- THE LAW: two lists over the same ranges, with old and new link exchanged
  pub undone_list : Exchanged first.written second.written
  undone_list = rw (second_list, first_list) (entries_exchanged m (sound m c) r l p n t fit free (source_of m l) (changes m (insert r l p n t)))

  -- of the same length
  pub undone_answer : second.answer ≡ Changed j
  unfolding accepted answers updated
  undone_answer =
      ap (λ (d : Done). d.answer) second_is ∙ ap (λ (ps : List ℕ). Changed (length ps)) (exchanged m (sound m c) r l p n t fit free)
      ∙ sym (ap (λ (d : Done). d.answer) took_it.is) ∙ ok

  -- and the rules are as they were
  pub undone_rules : second.left.rule ≡ m.rule
  unfolding accepted leaves updated
  undone_rules = ap (λ (d : Done). d.left.rule) second_is ∙ (back_alike m (sound m c) r l p n t fit free).rule
