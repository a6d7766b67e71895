-- `stand::Sets::spread` meets its contract. The loop's invariant: so many rounds are made, and the links of `from` are to carry on what is new. Assumes nothing.
use Rattle.questions.proofs.Standing.{Waves}
use Rattle.questions.proofs.stand.Sets.spread.Given as goal

abbrev pub invariant-loop : goal.invariant-loop
invariant-loop l = Waves l.hall l.v l.self.words l.from l.counter
