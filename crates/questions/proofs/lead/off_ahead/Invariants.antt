-- `lead::off_ahead` meets its contract. The loop's invariant: no node of `more` lies on a circle of leads, if none of `off` does. Assumes nothing.
use Rattle.questions.specs.Leads.{OffLeads}
use Rattle.questions.specs.Moves.{Included}
use Rattle.questions.proofs.lead.off_ahead.Given as goal

abbrev pub invariant-loop-v : goal.invariant-loop-v
invariant-loop-v l = Included l.off l.more × (OffLeads l.lead l.off → OffLeads l.lead l.more)
