-- `walk::stand` and `walk::travel` meet their contracts, as one cycle of calls: a fate is taken move by move, each as its owner's link
-- leads. Assumes nothing.
use Prim.Native.Nat.{◌<◌}
use Rattle.lent.proofs.Walking.{next_none, next_some}
use Rattle.lent.specs.Owners.{end_in}
use Rattle.meaning.proofs.walk.Walks.{fate_none, fate_more}
use Rattle.meaning.specs.Walk.{arrive, leave, told}
use Rattle.questions.proofs.Moves.{ends_at}
use borrow.Author.Tests.{lt-ltb, le-ltb}
use mathlib.Core.Path.{sym}
use native.Mathlib.Omega.{arith}
use Rattle.questions.proofs.walk.+stand_travel.Goals as goal

pub stand-returns-then-left-eq0 : goal.stand-returns-then-left-eq0
stand-returns-then-left-eq0 t c = sym (fate_none _ _ _ _ _ c.if-left-eq0.true)

pub stand-returns-in_default : goal.stand-returns-in_default
unfolding leave told
stand-returns-in_default t c =
    let more : 0 < c.args.left = omega arith in
    rw (fate_more, next_none _ _ _ c.requires.0.node c.in_default.ensures)

pub stand-travel-requires : goal.stand-travel-requires
stand-travel-requires t c =
    let P = c.requires in
    let l = c.in-Some.ensures in
    (omega arith, (P.0, omega (arith, l.1), omega arith, P.1))

pub stand-returns : goal.stand-returns
unfolding leave told
stand-returns t c =
    let more : 0 < c.args.left = omega arith in
    let l = c.in-Some.ensures in
    rw (fate_more, next_some _ _ _ c.requires.0.node l.0, ← l.1) c.travel.ensures

pub travel-stand-requires : goal.travel-stand-requires
unfolding end_in
travel-stand-requires t c =
    let P = c.requires in
    (omega arith, (record { laid = P.0.laid; atom = P.0.atom; node = ends_at P.0.laid _ c.if-e-lt256.true }, omega arith))

pub travel-returns-then-e-lt256 : goal.travel-returns-then-e-lt256
unfolding told arrive end_in
travel-returns-then-e-lt256 t c = rw (lt-ltb _ _ c.if-e-lt256.true) c.stand.ensures

pub travel-returns-then-e-lt512 : goal.travel-returns-then-e-lt512
unfolding told arrive end_in
travel-returns-then-e-lt512 t c = rw (le-ltb _ _ c.if-e-lt256.false, lt-ltb _ _ c.if-e-lt512.true)

pub travel-returns-else-e-lt512 : goal.travel-returns-else-e-lt512
unfolding told arrive end_in
travel-returns-else-e-lt512 t c = rw (le-ltb _ _ c.if-e-lt256.false, le-ltb _ _ c.if-e-lt512.false)
