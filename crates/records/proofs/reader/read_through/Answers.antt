-- `records::reader::read_through` meets its contract: the reader begins at the place, and what it reads and leaves is what is read there. Assumes nothing.
use Rattle.std.proofs.Common.{ap, ◌∙◌}
use Rattle.meaning.specs.Answers.{SaidPlaced}
use Rattle.records.specs.Readers.{Next, next_of}
use Rattle.records.proofs.reader.read_through.Goals as goal

pub returns : goal.returns
unfolding next_of
returns c =
    let told : Next → SaidPlaced = λ x. record { read = x.read; place = x.reader.at } in
    ap told (c.next_record-read.ensures ∙ ap next_of c.reader_over-reader.ensures)
