-- One outcome: two outcomes of `next_record`, or of `reader_over`, that both meet its contract are the same. An outcome is all that the
-- function returns and leaves. Those of the functions that hold no reader are in meaning's document/Once. Assumes nothing.
use mathlib.Core.Path.{◌≡◌, sym, ap, ◌∙◌}
use mathlib.Core.List.{List}
use Prim.Native.Nat.{ℕ}
use denote.Ref.{Bor}
use Rattle.meaning.specs.Records.{Read}
use Rattle.meaning.proofs.records.Said.{read_once}
use Rattle.records.specs.declared.reader.Reader.{Reader}
use Rattle.records.specs.Readers.{Next, next, next_of}

-- `next_record` on a reader r: what was read, and the reader at exit with its stream and its place
pub next_record_once : (r : Reader) (x y : Read) (left left' : Reader) → next x left ≡ next_of r → next y left' ≡ next_of r → (x ≡ y) × (left ≡ left')
next_record_once r x y left left' p q =
    let e = p ∙ sym q in
    (read_once x y (ap (λ (n : Next). n.read) e), ap (λ (n : Next). n.reader) e)

-- `reader_over` on a stream, by its reference, and a place
pub reader_over_once : (bytes : Bor (List ℕ)) (at : ℕ) (x y : Reader) → x ≡ record { bytes = bytes; at = at } → y ≡ record { bytes = bytes; at = at } → x ≡ y
reader_over_once bytes at x y p q = p ∙ sym q
