-- `ask::find_reach` meets its contract. The loop's invariant: at no place below p the walk from v comes to w. Assumes nothing.
use Rattle.lent.proofs.Questions.{NotCome}
use Rattle.questions.proofs.ask.find_reach.Given as goal

abbrev pub invariant-loop-p : goal.invariant-loop-p
invariant-loop-p l = NotCome l.fn.hall.plan.link l.fn.hall.atoms.number l.fn.hall.owner l.fn.hall.plan.nodes l.v l.w l.p
