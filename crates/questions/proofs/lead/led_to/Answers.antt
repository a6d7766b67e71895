-- `lead::led_to` meets its contract. The loop's invariant: what the nodes below v lead to, those of `off` left out, is met. Assumes nothing.
use Rattle.questions.proofs.Leads.{met_off, met_more}
use Rattle.questions.proofs.lead.led_to.Goals as goal
use Rattle.questions.proofs.lead.led_to.Goals.{then-off-v-eq0, else-off-v-eq0}

pub loop-v-preserved : goal.loop-v-preserved
loop-v-preserved c =
    let M = c.loop-v.invariant in elim c.if-off-v-eq0.branch [
      | then-off-v-eq0 w ↦ rw w.met-is (met_more _ _ _ _ M)
      | else-off-v-eq0 w ↦ rw w.met-is (met_off _ _ _ _ M w.if-off-v-eq0.false)
    ]
