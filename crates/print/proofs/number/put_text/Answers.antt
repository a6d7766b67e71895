-- `print::number::put_text` meets its contract. Assumes nothing.
use Rattle.print.proofs.Writes.{stored}
use Rattle.print.proofs.number.put_text.Goals as goal

pub returns : goal.returns
returns c = stored c.args.text.now c.args.buf.now _ c.args.at c.copy_from_slice.ensures.after c.requires
