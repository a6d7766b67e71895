-- `stand::Sets::stay` meets its contract. The loop's invariant: those that the first l links take on are out of the rows. Assumes nothing.
use Rattle.lent.specs.Owners.{end_in}
use Rattle.questions.proofs.Standing.{among_first, stayed_none, stayed_by, stayed_not, taken_alike}
use native.Mathlib.Omega.{arith}
use Rattle.questions.proofs.stand.Sets.stay.Goals as goal
use Rattle.questions.proofs.stand.Sets.stay.Goals.{then-word-lt512, else-word-lt512}

pub loop-l-init : goal.loop-l-init
loop-l-init c = stayed_none _ _ (omega arith)

pub loop-l-preserved : goal.loop-l-preserved
unfolding end_in
loop-l-preserved c =
    let p = among_first _ _ _ c.loop-l-test.true in
    elim c.if-word-lt512.branch [
      | then-word-lt512 w ↦
          rw w.self-is (stayed_by c.loop-l.invariant (rw p.1 at w.if-word-lt512.true) (rw p.1 at w.source_of.ensures.0) (taken_alike w.on_link.ensures.1 w.take.ensures))
      | else-word-lt512 w ↦ rw w.self-is (stayed_not c.loop-l.invariant (rw p.1 at w.if-word-lt512.false))
    ]
