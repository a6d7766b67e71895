-- `stand::Sets::gather` meets its contract. The loop's invariant: the rows below v are gathered. Assumes nothing.
use Rattle.questions.proofs.Standing.{all_in, gathered_none, gathered_more, joined_alike}
use native.Mathlib.Omega.{arith}
use Rattle.questions.proofs.stand.Sets.gather.Goals as goal

pub loop-v-init : goal.loop-v-init
loop-v-init c = gathered_none _ (omega arith)

pub loop-v-preserved : goal.loop-v-preserved
loop-v-preserved c = gathered_more c.loop-v.invariant (omega arith) (joined_alike all_in c.join.ensures)
