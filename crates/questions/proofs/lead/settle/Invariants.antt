-- `lead::settle` meets its contract. The loop's invariant: the set has come from the first one by steps; and with each it lacks fewer nodes. Assumes nothing.
use Rattle.questions.proofs.Missing.{missing}
use Rattle.questions.specs.Leads.{Grown}
use Rattle.questions.proofs.lead.settle.Given as goal

abbrev pub invariant-loop-nodes : goal.invariant-loop-nodes
invariant-loop-nodes g l = Grown (goal.F-post g l.step) l.start l.nodes

abbrev pub decreases-loop-nodes : goal.decreases-loop-nodes
decreases-loop-nodes g l = missing 16 l.nodes
