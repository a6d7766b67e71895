-- `stand::Sets::spread_once` meets its contract. The loop's invariant: the links of `left` are still to be taken. Assumes nothing.
use Rattle.questions.proofs.Standing.{Spreading}
use Rattle.questions.proofs.stand.Sets.spread_once.Given as goal

abbrev pub invariant-loop-left : goal.invariant-loop-left
invariant-loop-left l = Spreading l.hall l.initial.self.words l.self.words l.left l.next

abbrev pub decreases-loop-left : goal.decreases-loop-left
decreases-loop-left l = l.left
