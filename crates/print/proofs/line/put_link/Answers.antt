-- `print::line::put_link` meets its contract. Assumes nothing.
use Rattle.print.proofs.Fields.{no_link_lem, some_link}
use Rattle.print.proofs.Writes.{also, both}
use Rattle.std.proofs.Common.{refl, arith}
use Rattle.print.proofs.line.put_link.Goals as goal

pub returns-then-link-eq-NO_LINK : goal.returns-then-link-eq-NO_LINK
returns-then-link-eq-NO_LINK c =
    rw (no_link_lem c.args.link c.if-link-eq-NO_LINK.true) (also refl (omega arith) (both c.put_byte-next.ensures c.put_byte.ensures))

pub returns : goal.returns
returns c = rw (some_link c.args.link c.if-link-eq-NO_LINK.false) (both c.put_byte-next.ensures c.put_short.ensures)
