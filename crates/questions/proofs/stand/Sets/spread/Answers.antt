-- `stand::Sets::spread` meets its contract. The loop's invariant: so many rounds are made, and the links of `from` are to carry on what is new. Assumes nothing.
use Rattle.questions.proofs.Standing.{waves_start, waves_more, waves_done, waves_end}
use native.Mathlib.Omega.{arith}
use Rattle.questions.proofs.stand.Sets.spread.Goals as goal

pub loop-init : goal.loop-init
loop-init c =
    let p = c.requires in
    waves_start _ _ c.leaving_links-leaving.ensures p.0 p.1 c.fill.ensures

pub returns-then-from-eq0 : goal.returns-then-from-eq0
returns-then-from-eq0 c =
    let h = c.requires.1 in
    waves_done h (waves_more h c.loop.invariant c.spread_once-from.ensures) c.if-from-eq0.true

pub loop-preserved : goal.loop-preserved
loop-preserved c =
    waves_more c.requires.1 c.loop.invariant c.spread_once-from.ensures

pub returns : goal.returns
returns c = waves_end c.requires.1 c.loop.invariant (omega arith)
