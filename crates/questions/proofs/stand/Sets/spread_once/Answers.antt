-- `stand::Sets::spread_once` meets its contract. The loop's invariant: the links of `left` are still to be taken. Assumes nothing.
use Rattle.questions.proofs.Standing.{going_more, going_end, lowest_in, without_less}
use native.Mathlib.Omega.{arith}
use Rattle.questions.proofs.stand.Sets.spread_once.Goals as goal

pub spread_along-next-requires : goal.spread_along-next-requires
spread_along-next-requires c =
    let l = lowest_in _ c.loop-left.auto.left-fits.fits c.loop-left-test.true in
    (c.requires.0, c.loop-left.invariant.declared _ l.0 l.1, c.requires.1)

pub loop-left-smaller : goal.loop-left-smaller
loop-left-smaller c =
    let l = lowest_in _ c.loop-left.auto.left-fits.fits c.loop-left-test.true in
    without_less _ _ l.0 l.1

pub loop-left-preserved : goal.loop-left-preserved
loop-left-preserved c =
    let l = lowest_in _ c.loop-left.auto.left-fits.fits c.loop-left-test.true in
    going_more c.requires.0 c.loop-left.invariant l.0 l.1 c.spread_along-next.ensures

pub returns : goal.returns
returns c = going_end c.requires.0 c.loop-left.invariant (omega arith)
