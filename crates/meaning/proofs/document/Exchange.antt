-- An insert and its own removal, place by place: the same places change, and each entry has old and new link exchanged. Assumes nothing.
use mathlib.Core.Path.{◌≡◌, refl, sym, ap, ◌∙◌}
use mathlib.Core.Bool.{not}
use mathlib.Core.List.{[], ◌∷◌}
use Prim.Native.Nat.{ℕ, ◌+◌, ◌/◌}
use native.Mathlib.Omega.{arith}
use lib.Dec.{eqb}
use lib.ListN.{get_or, set}
use lib.Seq.{set-set, set-get_or, get_or-set_same}
use Rattle.meaning.specs.Hall.{State, source_of}
use Rattle.meaning.specs.Rule.{rule_word}
use Rattle.meaning.specs.Winner.{rule_at, winner, next_at, node_for}
use Rattle.meaning.specs.Atoms.{with_cut}
use Rattle.meaning.specs.Changes.{link_or_none, changed_at, changed_places, entry_at}
use Rattle.meaning.specs.Step.{with_rule, inserted, updated, node_of, listed, changes}
use Rattle.meaning.specs.Tables.{Sound}
use Rattle.meaning.proofs.records.Fields.{Sized}
use Rattle.meaning.proofs.rules.Words.{link_of_lem, free_zero}
use Rattle.meaning.proofs.atoms.ChangeList.{places_same}
use Rattle.meaning.proofs.records.Checks.{Clear}
use Rattle.meaning.proofs.sound.Kept.{rule_fits}
use Rattle.meaning.proofs.base.Order.{eqb_comm}
use Rattle.meaning.proofs.rules.Covers.{SameRules, winner_same, next_same}
use Rattle.meaning.specs.Records.{insert, remove}

module _ (m : State) (S : Sound m) (r l p n t : ℕ) (F : Sized m.width l p t) (C : Clear m r l p n t) where
  abbrev w : ℕ
  w = rule_word m.width l p n t

  abbrev pub there : State
  there = inserted m r w

  abbrev pub back : State
  back = with_rule there r 0

  pub back_alike : SameRules back m
  unfolding with_rule inserted with_cut rule_at
  back_alike = record {
    width = refl;
    rule = set-set m.rule r w 0 ∙ ap (set m.rule r) (sym (free_zero _ C.free)) ∙ set-get_or m.rule r 0;
    link = refl;
  }

  same_change : (v q : ℕ) → changed_at there back v q ≡ changed_at m there v q
  unfolding changed_at with_rule
  same_change v q =
      let c = get_or back.atoms.cut q 0 in
      ap not (ap (eqb (winner there v c)) (winner_same back_alike v c) ∙ eqb_comm (winner there v c) (winner m v c))

  rule_there : rule_at there r ≡ w
  unfolding rule_at inserted with_rule with_cut
  rule_there = get_or-set_same m.rule r w 0 (omega (arith, S.rules, C.number))

  pub node_there : node_for there (rule_at there r) ≡ source_of m l
  unfolding source_of inserted with_rule with_cut
  node_there = rw rule_there (ap (λ (x : ℕ). get_or m.plan.link x 0 / 1024) (link_of_lem (rule_fits S F C)))

  -- THE LAW: the same places
  pub exchanged : changes there (remove r) ≡ changes m (insert r l p n t)
  unfolding updated node_of listed
  exchanged = ap (λ (v : ℕ). changed_places there back v back.atoms.count) node_there ∙ places_same there back m there (source_of m l) (same_change (source_of m l)) _ ∙ (unfold with_rule in refl)

  -- with the same atom and ends, and the links exchanged
  pub exchanged_entry : (v q : ℕ) → entry_at there back v q
      ≡ get_or there.atoms.number q 0 ∷ get_or there.atoms.cut q 0 ∷ get_or there.atoms.cut (q + 1) 0
      ∷ link_or_none (next_at there (get_or there.atoms.cut q 0) v) ∷ link_or_none (next_at m (get_or there.atoms.cut q 0) v) ∷ []
  unfolding entry_at with_rule
  exchanged_entry v q = rw (next_same back_alike)
