-- `print::number::put_middle` meets its contract. Assumes nothing.
use Rattle.std.proofs.Common.{sym, arith}
use Rattle.print.proofs.Digits.{more}
use Rattle.print.proofs.Writes.{also, both}
use Rattle.print.proofs.number.put_middle.Goals as goal

pub returns : goal.returns
returns c = also (sym (more c.args.n (omega arith))) (omega arith) (both c.put_small-next.ensures c.put_four.ensures)
