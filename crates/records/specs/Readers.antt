-- What a reader returns and leaves when it reads on. Assumes nothing: these are definitions.
use Rattle.meaning.specs.Answers.{SaidRead, said_read}
use Rattle.meaning.specs.Records.{Read, placed_at}
use Rattle.records.specs.declared.reader.Reader.{Reader}

-- what was read, and the reader: its stream and its place
pub record Next : Type 0 where
  pub read : SaidRead
  pub reader : Reader

abbrev pub next : Read → Reader → Next
next x r = record { read = said_read x; reader = r }

-- THE CONTRACT of a reader that reads on: what is read at its place of its stream; then it has the same stream, and the place after
unfoldable pub next_of : Reader → Next
next_of r =
    let x = placed_at r.bytes.now r.at in
    next x.read (record { bytes = r.bytes; at = x.place })
