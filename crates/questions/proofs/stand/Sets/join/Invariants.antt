-- `stand::Sets::join` meets its contract, word by word. Assumes nothing.
use Rattle.questions.proofs.Standing.{Joining}
use Rattle.questions.proofs.stand.Sets.join.Given as goal

abbrev pub invariant-loop-j : goal.invariant-loop-j
invariant-loop-j l = Joining l.set l.source l.row l.initial.self.words l.self.words l.j l.more
