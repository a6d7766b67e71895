-- `lead::toward_walks` meets its contract: each move of an atom's walk is a lead. Assumes nothing.
use Rattle.questions.proofs.Leads.{toward_walks}
use Rattle.questions.proofs.lead.toward_walks.Goals as goal

pub returns : goal.returns
returns c = toward_walks _ _ _ _ c.leads.ensures c.toward_leads.ensures
