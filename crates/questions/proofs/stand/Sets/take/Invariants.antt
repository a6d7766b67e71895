-- `stand::Sets::take` meets its contract, word by word. Assumes nothing.
use Rattle.questions.proofs.Standing.{Writing, left_word}
use Rattle.questions.proofs.stand.Sets.take.Given as goal

abbrev pub invariant-loop-j : goal.invariant-loop-j
invariant-loop-j l = Writing l.initial.self.words l.self.words l.source l.j (left_word l.set l.initial.self.words l.source)
