-- `lead::toward_once` meets its contract. The loop's invariant: `more` has each node below v that leads to one of `to`. Assumes nothing.
use Rattle.questions.proofs.Leads.{widened_more, widened_same}
use native.Mathlib.Omega.{arith}
use Rattle.questions.proofs.lead.toward_once.Goals as goal
use Rattle.questions.proofs.lead.toward_once.Goals.{then-leads_to-more-ne0, else-leads_to-more-ne0}

pub loop-v-preserved : goal.loop-v-preserved
loop-v-preserved c =
    let I = c.loop-v.invariant in elim c.if-leads_to-more-ne0.branch [
      | then-leads_to-more-ne0 w ↦ rw w.more-is (widened_more _ _ _ _ I (omega arith))
      | else-leads_to-more-ne0 w ↦ rw w.more-is (widened_same _ _ _ _ I (omega (arith, w.if-leads_to-more-ne0.false)))
    ]
