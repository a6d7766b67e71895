-- `label::put` meets its contract: a bit is set. Assumes nothing.
use Rattle.meaning.proofs.base.Bits.{mask}
use Rattle.tables.proofs.Moves.{put_is}
use borrow.Author.Rules.{rules}
use Rattle.tables.proofs.label.put.Goals as goal

pub returns : goal.returns
returns c = put_is (search rules) (search rules) (search rules) (rw mask)
