-- `lead::settle` meets its contract. The loop's invariant: the set has come from the first one by steps; and with each it lacks fewer nodes. Assumes nothing.
use Rattle.questions.proofs.Missing.{fewer_grown}
use Rattle.questions.specs.Leads.Grown.{started, grew}
use native.Mathlib.Omega.{arith}
use Rattle.questions.proofs.lead.settle.Goals as goal

pub loop-nodes-init : goal.loop-nodes-init
loop-nodes-init g c = started

pub loop-nodes-preserved : goal.loop-nodes-preserved
loop-nodes-preserved g c = grew _ _ c.loop-nodes.invariant c.step-more.ensures

pub loop-nodes-smaller : goal.loop-nodes-smaller
loop-nodes-smaller g c = fewer_grown _ _ (c.requires.grows _ _ c.step-more.ensures) (omega arith) c.if-more-nodes.false
