-- `print::line::write_change` meets its contract. Assumes nothing.
use Rattle.std.proofs.Common.{append_assoc, arith}
use Rattle.print.specs.Lines.{change}
use Rattle.print.proofs.Writes.{both, also}
use Rattle.print.proofs.line.write_change.Goals as goal

pub returns : goal.returns
unfolding change
returns c =
    also (simp append_assoc) (omega arith)
    (both (both (both (both (both (both c.put_byte-start.ensures c.put_field-first.ensures) c.put_field-second.ensures) c.put_field-third.ensures)
    c.put_link-fourth.ensures) c.put_link-last.ensures) c.put_byte.ensures)
