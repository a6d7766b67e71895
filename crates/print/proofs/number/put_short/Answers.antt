-- `print::number::put_short` meets its contract. Assumes nothing.
use Rattle.std.proofs.Common.{rules, arith}
use Rattle.print.proofs.Digits.{one, two}
use Rattle.print.proofs.number.put_short.Goals as goal

pub returns-then-n-lt10 : goal.returns-then-n-lt10
returns-then-n-lt10 c = rw (one c.args.n (omega arith)) (search rules)

pub returns-then-n-lt100 : goal.returns-then-n-lt100
returns-then-n-lt100 c = rw (two c.args.n (omega arith) (omega arith)) (search rules)
