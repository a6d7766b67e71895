-- `lead::join` meets its contract: a bit is set. Assumes nothing.
use Rattle.questions.proofs.Leads.{let_lead}
use borrow.Author.Rules.{rules}
use Rattle.questions.proofs.lead.join.Goals as goal

pub returns : goal.returns
returns c = let_lead _ _ _ (search rules) (search rules) (search rules)
