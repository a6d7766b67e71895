-- `print::number::put_head` meets its contract. Assumes nothing.
use Rattle.std.proofs.Common.{sym, arith}
use Rattle.print.proofs.Digits.{one, two, more}
use Rattle.print.proofs.Writes.{also, both}
use Rattle.print.proofs.number.put_head.Goals as goal

pub returns-then-n-lt10 : goal.returns-then-n-lt10
returns-then-n-lt10 c = also (sym (one c.args.n (omega arith))) (omega arith) c.put_byte.ensures

pub returns-then-n-lt100 : goal.returns-then-n-lt100
returns-then-n-lt100 c = also (sym (two c.args.n (omega arith) (omega arith))) (omega arith) c.put_pair.ensures

pub returns : goal.returns
returns c = also (sym (more c.args.n (omega arith))) (omega arith) (both c.put_middle-next.ensures c.put_four.ensures)
