-- `stand::Sets::stay` meets its contract. The loop's invariant: those that the first l links take on are out of the rows. Assumes nothing.
use Rattle.questions.specs.Standing.{Stayed}
use Rattle.questions.proofs.stand.Sets.stay.Given as goal

abbrev pub invariant-loop-l : goal.invariant-loop-l
invariant-loop-l l = Stayed l.hall l.l l.initial.self.words l.self.words
