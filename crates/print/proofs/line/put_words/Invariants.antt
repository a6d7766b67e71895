-- The numbers that were passed are written.
use Rattle.std.proofs.Common.{◌+◌, ◌*◌, ◌++◌, length, take}
use Rattle.print.specs.Text.{Wrote, decimal}
use Rattle.print.proofs.Fields.{spaced}
use Rattle.print.proofs.line.put_words.Given as goal

abbrev pub invariant-loop-n : goal.invariant-loop-n
invariant-loop-n l =
    Wrote (20 + length l.text + l.n-index * 21) ((decimal l.place ++ l.text) ++ spaced (take l.n-index l.numbers)) l.fn.buf l.buf l.at l.next
