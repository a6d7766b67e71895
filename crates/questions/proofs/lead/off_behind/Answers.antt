-- `lead::off_behind` meets its contract: a node on a circle of leads is led to by one. Assumes nothing.
use Rattle.lent.proofs.Walking.{in_either}
use Rattle.questions.proofs.Leads.{off_unmet}
use Rattle.questions.proofs.lead.off_behind.Goals as goal

pub returns-clause-grows : goal.returns-clause-grows
returns-clause-grows c = in_either _ _

pub returns-clause-keeps : goal.returns-clause-keeps
returns-clause-keeps c = λ o. off_unmet _ _ _ o c.led_to.ensures
