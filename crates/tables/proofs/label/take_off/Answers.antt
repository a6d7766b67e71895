-- `label::take_off` meets its contract: a bit is cleared. Assumes nothing.
use Rattle.meaning.proofs.base.Bits.{mask}
use Rattle.tables.proofs.Moves.{taken_off_is}
use borrow.Author.Rules.{rules}
use Rattle.tables.proofs.label.take_off.Goals as goal

pub returns : goal.returns
returns c = taken_off_is (search rules) (search rules) (search rules) (rw mask)
