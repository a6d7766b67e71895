-- A read takes the next known bytes, and puts them behind those that are in the buffer.
use Rattle.std.proofs.Common.{◌≡◌, ℕ, ◌+◌, ◌-◌, ◌≤◌, List, ◌++◌, length, take, rules, subst, sym, le_refl, drop_at, length-take-le}
use Rattle.std.proofs.lemmas.Slice.{take-put_mid_below}
use Rattle.std.specs.Io.KnownBytes.{Consumes}
use Rattle.std.proofs.KnownBytes.{Consumes-trans}
use borrow.Rule.Slice.PartMut.{put_mid, post_of}
use lib.Seq.{take-add, take-append-le}
use Rattle.hallcheck.proofs.read_full.Goals as goal

taken : (a k n : ℕ) (xs ys : List ℕ) → a ≤ length xs → n ≤ length ys → take (a + n) (put_mid a k xs ys) ≡ take a xs ++ take n ys
taken a k n xs ys within fits =
    rw (
      take-add a n (put_mid a k xs ys),
      take-put_mid_below a k xs ys a (le_refl a) within,
      drop_at (take a xs) (ys ++ post_of a k xs) a (length-take-le a xs within),
      take-append-le n ys (post_of a k xs) fits,
    )

pub loop-done-preserved : goal.loop-done-preserved
loop-done-preserved g c =
    let xs = c.loop-done.buf in
    let ys = c.read.new.buf in
    let a = c.loop-done.done in
    (search rules, subst (Consumes _ _) (sym (taken a (length xs - a) c.in_ok-n.n xs ys c.loop-done.invariant.0 c.in_ok-n.ensures.bound.0)) (Consumes-trans _ _ _ _ _ c.loop-done.invariant.1 c.in_ok-n.ensures.bytes.0))
