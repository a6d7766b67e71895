-- `print::line::put_words` meets its contract. Assumes nothing.
use Rattle.std.proofs.Common.{refl, arith}
use Rattle.print.proofs.Fields.{none_yet, passed, all}
use Rattle.print.proofs.Writes.{both, also}
use Rattle.print.proofs.line.put_words.Goals as goal

pub loop-n-init : goal.loop-n-init
loop-n-init c = also (none_yet _ c.args.numbers.now) (omega arith) (both c.put_number-start.ensures c.put_text-next.ensures)

pub loop-n-preserved : goal.loop-n-preserved
loop-n-preserved c =
    also (passed _ _ _ _ c.loop-n-test.true refl) (omega arith) (both c.loop-n.invariant c.put_field-next.ensures)

pub returns : goal.returns
returns c = also (all _ _ c.args.numbers.now _ c.loop-n-test.false) (omega arith) (both c.loop-n.invariant c.put_byte.ensures)
