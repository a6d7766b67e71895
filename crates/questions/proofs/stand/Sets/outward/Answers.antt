-- `stand::Sets::outward` meets its contract. The loop's invariant: those that leave by the first l links have joined. Assumes nothing.
use Rattle.lent.specs.Owners.{end_in}
use Rattle.questions.proofs.Standing.{among_first, outward_none, outward_by, outward_not, joined_alike}
use native.Mathlib.Omega.{arith}
use Rattle.questions.proofs.stand.Sets.outward.Goals as goal
use Rattle.questions.proofs.stand.Sets.outward.Goals.{then-word-eq1, else-word-eq1}

pub loop-l-init : goal.loop-l-init
loop-l-init c = outward_none _ _ (omega arith)

pub loop-l-preserved : goal.loop-l-preserved
unfolding end_in
loop-l-preserved c =
    let p = among_first _ _ _ c.loop-l-test.true in
    elim c.if-word-eq1.branch [
      | then-word-eq1 w ↦
          let s = rw p.1 at w.source_of.ensures.0 in
          rw w.self-is (outward_by c.loop-l.invariant (rw p.1 at w.if-word-eq1.true) s (rw s (omega (arith, c.requires.sources _ p.0, c.requires.small))) (joined_alike w.on_link.ensures.1 w.join.ensures))
      | else-word-eq1 w ↦ rw w.self-is (outward_not c.loop-l.invariant (rw p.1 at w.if-word-eq1.false))
    ]
