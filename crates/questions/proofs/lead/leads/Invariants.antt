-- `lead::leads` meets its contract. The loop's invariant: the links below l are taken in. Assumes nothing.
use Rattle.questions.specs.Leads.{Leads}
use Rattle.questions.proofs.lead.leads.Given as goal

abbrev pub invariant-loop-l : goal.invariant-loop-l
invariant-loop-l l = Leads l.hall l.l l.lead
