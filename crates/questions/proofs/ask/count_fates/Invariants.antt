-- `ask::count_fates` meets its contract. The loop's invariant: each count is that of the addresses below place p. Assumes nothing.
use Rattle.lent.proofs.Questions.{Tallied}
use Rattle.meaning.specs.Box.{state_of}
use Rattle.questions.proofs.ask.count_fates.Given as goal

abbrev pub invariant-loop-p : goal.invariant-loop-p
invariant-loop-p l = Tallied (state_of l.fn.hall) l.v l.p l.counts.out l.counts.lost l.counts.round
