-- `lead::off_leads` meets its contract: each step keeps that no node of the set lies on a circle of leads. Assumes nothing.
use Rattle.questions.proofs.Leads.{grown_keeps, off_none}
use Rattle.questions.specs.Leads.{OffLeads}
use borrow.Author.Rules.{rules}
use Rattle.questions.proofs.lead.off_leads.Goals as goal

pub returns : goal.returns
returns c =
    let lead = c.args.lead.now in
    let ahead : OffLeads lead c.settle-ahead.result = grown_keeps _ (OffLeads lead) (λ x y o r. search rules) _ _ (off_none lead) c.settle-ahead.ensures.from in
    grown_keeps _ (OffLeads lead) (λ x y o r. search rules) _ _ ahead c.settle.ensures.from
