-- `records::reader::next_record` meets its contract: what `take_at` gives is what is read at the reader's place, and the place after. Assumes nothing.
use Rattle.std.proofs.Common.{ap}
use Rattle.meaning.specs.declared.Placed.{Placed}
use Rattle.records.specs.Readers.{next, next_of}
use Rattle.records.proofs.reader.next_record.Goals as goal

pub returns : goal.returns
unfolding next_of
returns c = ap (λ (x : Placed). next x.read (record { bytes = c.args.r.now.bytes; at = x.place })) c.take_at-taken.ensures
