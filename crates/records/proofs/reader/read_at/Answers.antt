-- `records::reader::read_at` meets its contract: past the end no byte is left. Assumes nothing.
use Rattle.std.proofs.Common.{ap, arith}
use Rattle.meaning.proofs.records.Reading.{read_past}
use Rattle.meaning.specs.Answers.{said_read}
use Rattle.records.proofs.reader.read_at.Goals as goal

pub returns-in-None : goal.returns-in-None
returns-in-None c = ap said_read (read_past c.args.bytes.now c.args.at (omega (arith, c.in-None.ensures.lookup.0)))
