-- `update::check_remove` meets its contract. Assumes nothing.
use Rattle.meaning.proofs.records.Checks.{remove_high, remove_free, remove_passes}
use Rattle.meaning.specs.Step.{checked}
use Rattle.meaning.specs.Winner.{rule_at}
use mathlib.Core.Path.{sym}
use Rattle.tables.proofs.update.check_remove.Goals as goal

pub returns-then-r-gt255 : goal.returns-then-r-gt255
unfolding checked
returns-then-r-gt255 c = sym (remove_high _ _ c.if-r-gt255.true)

pub returns-then-hall-r-eq0 : goal.returns-then-hall-r-eq0
unfolding checked rule_at
returns-then-hall-r-eq0 c = sym (remove_free _ _ c.if-r-gt255.false c.if-hall-r-eq0.true)

pub returns : goal.returns
unfolding checked rule_at
returns c = sym (remove_passes _ _ c.if-r-gt255.false c.if-hall-r-eq0.false)
