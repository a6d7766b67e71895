-- `stand::Sets::gather` meets its contract. The loop's invariant: the rows below v are gathered. Assumes nothing.
use Rattle.questions.specs.Standing.{Gathered}
use Rattle.questions.proofs.stand.Sets.gather.Given as goal

abbrev pub invariant-loop-v : goal.invariant-loop-v
invariant-loop-v l = Gathered l.v l.initial.self.words l.self.words
