-- `lead::off_ahead` meets its contract. The loop's invariant: no node of `more` lies on a circle of leads, if none of `off` does. Assumes nothing.
use Rattle.lent.proofs.Walking.{in_either}
use Rattle.questions.proofs.Leads.{off_more}
use native.Mathlib.Omega.{arith}
use Rattle.questions.proofs.lead.off_ahead.Goals as goal
use Rattle.questions.proofs.lead.off_ahead.Goals.{then-to-more, else-to-more}

pub loop-v-preserved : goal.loop-v-preserved
loop-v-preserved c =
    let I = c.loop-v.invariant in elim c.if-to-more.branch [
      | then-to-more w ↦ rw w.more-is (λ x e. in_either _ _ x (I.0 x e), λ o. off_more _ _ _ (omega arith) (I.1 o) w.if-to-more.true)
      | else-to-more w ↦ rw w.more-is I
    ]
