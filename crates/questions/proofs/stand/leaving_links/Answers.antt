-- `stand::leaving_links` meets its contract. The loop's invariant: the first l links are in. Assumes nothing.
use Rattle.lent.specs.Owners.{end_in}
use Rattle.questions.proofs.Standing.{among_first, leaving_by, leaving_not}
use native.Mathlib.Omega.{arith}
use Rattle.questions.proofs.stand.leaving_links.Goals as goal
use Rattle.questions.proofs.stand.leaving_links.Goals.{then-word-lt16, else-word-lt16}

pub loop-l-preserved : goal.loop-l-preserved
unfolding end_in
loop-l-preserved c =
    let p = among_first _ _ _ c.loop-l-test.true in
    elim c.if-word-lt16.branch [
      | then-word-lt16 w ↦
          let s = rw p.1 at w.source_of.ensures.0 in
          rw w.leaving-is (leaving_by c.loop-l.invariant (omega (arith, p.0, c.requires.few)) s (rw s (omega (arith, c.requires.sources _ p.0, c.requires.small))))
      | else-word-lt16 w ↦ rw w.leaving-is (leaving_not c.loop-l.invariant (rw p.1 at w.if-word-lt16.false))
    ]
