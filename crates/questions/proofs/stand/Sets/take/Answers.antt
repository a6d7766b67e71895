-- `stand::Sets::take` meets its contract, word by word. Assumes nothing.
use Rattle.questions.proofs.Standing.{taken_away}
use native.Mathlib.Omega.{arith}
use Rattle.questions.proofs.stand.Sets.take.Goals as goal

pub returns : goal.returns
returns c = taken_away _ (λ i. (c.type_inv.set i).fits) c.loop-j.invariant (omega arith)
