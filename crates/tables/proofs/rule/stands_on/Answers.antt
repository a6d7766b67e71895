-- `rule::stands_on` meets its contract. Assumes nothing.
use Rattle.tables.proofs.Rules.{live_marked}
use borrow.Author.Rules.{rules}
use Rattle.tables.proofs.rule.stands_on.Goals as goal

pub returns : goal.returns
returns c = live_marked _ _ (search rules) _ c.args.here.now c.link_of.ensures.0
