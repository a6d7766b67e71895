-- `update::check_insert` meets its contract. Assumes nothing.
use Rattle.meaning.proofs.records.Checks.{number_high, number_live, link_unknown, length_high, prefix_ragged}
use Rattle.meaning.specs.Box.{state_of}
use Rattle.meaning.specs.Step.{checked}
use Rattle.meaning.specs.Winner.{rule_at}
use Rattle.tables.proofs.Rules.{Tried, insert_ties, insert_full, insert_passes}
use mathlib.Core.Path.{sym, ◌∙◌}
use native.Mathlib.Omega.{arith}
use Rattle.tables.proofs.update.check_insert.Goals as goal
use Rattle.tables.proofs.update.check_insert.Goals.{After-ties, then-x-gt32-via-then-x-gt32, then-x-gt32-via-else-x-gt32+then-is_ragged}

pub returns-then-r-gt255 : goal.returns-then-r-gt255
unfolding checked
returns-then-r-gt255 c = sym (number_high _ _ _ _ _ _ c.if-r-gt255.true)

pub returns-then-hall-r-ne0 : goal.returns-then-hall-r-ne0
unfolding checked rule_at
returns-then-hall-r-ne0 c = sym (number_live _ _ _ _ _ _ c.if-r-gt255.false c.if-hall-r-ne0.true)

pub returns-then-hall-x : goal.returns-then-hall-x
unfolding checked rule_at
returns-then-hall-x c = sym (link_unknown _ _ _ _ _ _ c.if-r-gt255.false c.if-hall-r-ne0.false c.if-hall-x.true)

pub returns-then-x-gt32 : goal.returns-then-x-gt32
unfolding checked rule_at
returns-then-x-gt32 c =
    elim c.then-x-gt32.branch [
      | then-x-gt32-via-then-x-gt32 w ↦ sym (length_high _ _ _ _ _ _ c.if-r-gt255.false c.if-hall-r-ne0.false c.if-hall-x.false w.if-x-gt32.true)
      | then-x-gt32-via-else-x-gt32+then-is_ragged w ↦
          sym (prefix_ragged _ _ _ _ _ _ c.if-r-gt255.false c.if-hall-r-ne0.false c.if-hall-x.false w.if-x-gt32.false (sym w.is_ragged.ensures ∙ w.if-is_ragged.true))
    ]

-- what is known of the state, once code has seen whether a rule ties
tried : (c : After-ties)
    → let x = c.args in
    Tried (state_of x.hall.now) x.r x.x.link x.x.prefix x.x.length x.x.priority c.source_of-v.result c.pack-w.result c.ties.result
unfolding rule_at
tried c = record {
  low = c.if-r-gt255.false;
  free = c.if-hall-r-ne0.false;
  known = c.if-hall-x.false;
  fits = record { wide = omega arith; link = omega (arith, c.requires.sound.laid.few); prefix = omega arith; long = c.if-x-gt32.false; priority = omega arith };
  whole = sym c.is_ragged.ensures ∙ c.if-is_ragged.false;
  source = c.source_of-v.ensures.0;
  word = c.pack-w.ensures;
  ties = c.ties.ensures;
}

pub returns-then-ties : goal.returns-then-ties
unfolding checked
returns-then-ties c = insert_ties (tried (goal.at.returns-then-ties c).After-ties) c.if-ties.true

pub returns-then-atoms-more-gt512 : goal.returns-then-atoms-more-gt512
unfolding checked
returns-then-atoms-more-gt512 c =
    insert_full (tried (goal.at.returns-then-atoms-more-gt512 c).After-ties) c.if-ties.false _ _ _ _ c.lower_of.ensures.0 c.upper_of.ensures.0 c.adds.ensures.0 c.adds-2.ensures.0 c.if-atoms-more-gt512.true

pub returns : goal.returns
unfolding checked
returns c =
    insert_passes (tried (goal.at.returns c).After-ties) c.if-ties.false _ _ _ _ c.lower_of.ensures.0 c.upper_of.ensures.0 c.adds.ensures.0 c.adds-2.ensures.0 c.if-atoms-more-gt512.false
