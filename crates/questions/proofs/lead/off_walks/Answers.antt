-- `lead::off_walks` meets its contract: what lies on no circle of leads lies on none of an atom's. Assumes nothing.
use Rattle.questions.proofs.Leads.{off_walks}
use Rattle.questions.proofs.lead.off_walks.Goals as goal

pub returns : goal.returns
returns c = off_walks _ _ _ c.leads.ensures c.off_leads.ensures
