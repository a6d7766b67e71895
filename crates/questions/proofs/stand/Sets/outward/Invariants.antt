-- `stand::Sets::outward` meets its contract. The loop's invariant: those that leave by the first l links have joined. Assumes nothing.
use Rattle.questions.specs.Standing.{Outward}
use Rattle.questions.proofs.stand.Sets.outward.Given as goal

abbrev pub invariant-loop-l : goal.invariant-loop-l
invariant-loop-l l = Outward l.hall l.l l.initial.self.words l.self.words
