-- `print::number::put_number` meets its contract. Assumes nothing.
use Rattle.std.proofs.Common.{sym, arith}
use Rattle.print.proofs.Digits.{most}
use Rattle.print.proofs.Writes.{also, both}
use Rattle.print.proofs.number.put_number.Goals as goal

pub returns : goal.returns
returns c = also (sym (most c.args.n (omega arith))) (omega arith) (both c.put_head-next.ensures c.put_eight.ensures)
