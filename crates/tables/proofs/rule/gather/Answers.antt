-- `rule::gather` meets its contract. The loop's invariant: the rules of the rounds passed, four in each, are gathered. Assumes nothing.
use Prim.Native.Nat.{◌+◌, ◌*◌}
use Rattle.tables.proofs.Rules.{gathered_none, gathered_to, gathered_front}
use borrow.Author.Rules.{rules}
use native.Mathlib.Omega.{arith}
use Rattle.tables.proofs.rule.gather.Goals as goal

pub loop-round-init : goal.loop-round-init
loop-round-init c = (search rules, search rules, gathered_none)

pub loop-round-preserved : goal.loop-round-preserved
loop-round-preserved c =
    let l = c.loop-round in
    let m = l.invariant.1 in
    let g1 = c.take_in-count.ensures.1 _ _ m l.invariant.2 in
    let g2 = gathered_to (c.take_in-count-in-loop-round.ensures.1 _ _ m g1) (4 * l.round + 2) (omega arith) in
    let g3 = gathered_to (c.take_in-count-in-loop-round-2.ensures.1 _ _ m g2) (4 * l.round + 3) (omega arith) in
    let g4 = gathered_to (c.take_in-count-in-loop-round-3.ensures.1 _ _ m g3) (4 * (l.round + 1)) (omega arith) in
    (search rules, m, g4)

pub returns : goal.returns
returns c = gathered_front c.loop-round.invariant.2 (omega arith) (omega (arith, c.loop-round.invariant.2.few))
