-- `records::reader::take_at` meets its contract: what is passed is what the case read says, and a record lies within the stream. Assumes nothing.
use borrow.Author.Rules.{rules}
use Prim.Native.Nat.{ℕ, ◌+◌}
use Rattle.meaning.proofs.records.Reading.{read_within, placed}
use Rattle.meaning.proofs.records.Said.{read_once}
use Rattle.meaning.specs.Records.{Read, got, no_more, place_after}
use lib.ListN.{length-drop}
use mathlib.Core.Path.{◌≡◌, refl, sym, ap, ◌∙◌}
use native.Mathlib.Nat.{add-zero}
use native.Mathlib.Omega.{arith}
use Rattle.records.proofs.reader.take_at.Goals as goal
use Rattle.records.proofs.reader.take_at.Goals.{in-Ok-Some, in-Err, in-Ok-None}

-- the place after, where n bytes are passed at what was read
after : (at p n : ℕ) (x y : Read) → x ≡ y → place_after at y ≡ at + n → p ≡ n → at + p ≡ place_after at x
after at p n x y e f z = ap (λ (k : ℕ). at + k) z ∙ (sym f ∙ sym (ap (place_after at) e))

pub overflow_add-result : goal.overflow_add-result
overflow_add-result c =
    let read = read_once _ _ c.read_at-read.ensures in
    elim c.match-read.branch [
      | in-Ok-Some w ↦
          let z : c.read_at-read.result ≡ got w.in-Ok-Some.field-0-0-0 w.in-Ok-Some.n = search rules in
          omega (arith, w.passed-is, length-drop c.args.at c.args.bytes.now, read_within _ _ _ (sym read ∙ z))
      | in-Err w ↦ omega (arith, w.passed-is)
      | in-Ok-None w ↦ omega (arith, w.passed-is)
    ]

pub returns : goal.returns
unfolding place_after
returns c =
    let read = read_once _ _ c.read_at-read.ensures in
    elim c.match-read.branch [
      | in-Ok-Some w ↦
          let z : c.read_at-read.result ≡ got w.in-Ok-Some.field-0-0-0 w.in-Ok-Some.n = search rules in
          placed _ _ _ _ read (after _ _ _ _ _ z refl w.passed-is)
      | in-Err w ↦ placed _ _ _ _ read (after _ _ 0 _ _ w.in-Err.is (sym (add-zero _)) w.passed-is)
      | in-Ok-None w ↦
          let z : c.read_at-read.result ≡ no_more = search rules in
          placed _ _ _ _ read (after _ _ 0 _ _ z (sym (add-zero _)) w.passed-is)
    ]
