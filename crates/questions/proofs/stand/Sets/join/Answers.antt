-- `stand::Sets::join` meets its contract, word by word. Assumes nothing.
use Rattle.questions.proofs.Standing.{joining_more, joined_row}
use borrow.Author.Tests.{eqb-true, not-false}
use mathlib.Core.Path.{refl}
use native.Mathlib.Omega.{arith}
use Rattle.questions.proofs.stand.Sets.join.Goals as goal

pub loop-j-preserved : goal.loop-j-preserved
loop-j-preserved c = joining_more c.loop-j.invariant c.requires.1 (omega arith) _ refl

pub returns : goal.returns
returns c = joined_row c.loop-j.invariant (omega arith) (λ e. eqb-true _ _ (not-false _ e))
