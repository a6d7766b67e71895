-- `lead::toward_once` meets its contract. The loop's invariant: `more` has each node below v that leads to one of `to`. Assumes nothing.
use Rattle.questions.specs.Leads.{Widened}
use Rattle.questions.proofs.lead.toward_once.Given as goal

abbrev pub invariant-loop-v : goal.invariant-loop-v
invariant-loop-v l = Widened l.lead l.to l.v l.more
