-- `walk::comes_to` meets its contract. The loop's invariant: the packet stands at `here` after i moves from v, and stood at other
-- nodes than w before. Assumes nothing.
use Rattle.lent.proofs.Walking.{step_to, comes_now, not_now, comes_never, none_below}
use Rattle.meaning.specs.Walk.{after, comes_to}
use Rattle.questions.proofs.Leads.{strayed}
use Rattle.questions.specs.Moves.{IsLed}
use mathlib.Core.Path.{refl, sym}
use native.Mathlib.Omega.{arith}
use Rattle.questions.proofs.walk.comes_to.Goals as goal

pub loop-init : goal.loop-init
unfolding after
loop-init c = (omega arith, refl, λ k h. absurd (omega arith))

pub returns-then-here-w : goal.returns-then-here-w
returns-then-here-w c =
    sym (comes_now _ _ _ _ _ _ c.loop.invariant.1 _ (omega arith) c.if-here-w.true)

pub returns-then-to-here-eq0 : goal.returns-then-to-here-eq0
returns-then-to-here-eq0 c =
    sym (strayed _ _ _ _ _ _ _ c.loop.invariant.1 c.loop.invariant.2 c.requires.1 c.loop.invariant.0 c.if-to-here-eq0.true _)

pub returns-in_default : goal.returns-in_default
unfolding IsLed
returns-in_default c =
    let q = c.in_default.ensures in
    sym (comes_never _ _ _ _ _ _ c.loop.invariant.1 (not_now _ _ _ _ _ _ c.loop.invariant.1 c.loop.invariant.2 c.if-here-w.false) q _)

pub loop-preserved : goal.loop-preserved
unfolding IsLed
loop-preserved c =
    let q = c.in-Some.ensures in
    (q.1, step_to _ _ _ _ _ c.loop.invariant.1 _ q.0, not_now _ _ _ _ _ _ c.loop.invariant.1 c.loop.invariant.2 c.if-here-w.false)

pub returns : goal.returns
unfolding comes_to
returns c = sym (none_below _ _ _ c.loop.invariant.2 (omega arith))
