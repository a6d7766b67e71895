-- `lead::led_to` meets its contract. The loop's invariant: what the nodes below v lead to, those of `off` left out, is met. Assumes nothing.
use Rattle.questions.specs.Leads.{Met}
use Rattle.questions.proofs.lead.led_to.Given as goal

abbrev pub invariant-loop-v : goal.invariant-loop-v
invariant-loop-v l = Met l.lead l.off l.v l.met
