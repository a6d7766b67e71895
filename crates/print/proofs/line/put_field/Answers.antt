-- `print::line::put_field` meets its contract. Assumes nothing.
use Rattle.print.proofs.Writes.{both}
use Rattle.print.proofs.line.put_field.Goals as goal

pub returns : goal.returns
returns c = both c.put_byte-next.ensures c.put_number.ensures
