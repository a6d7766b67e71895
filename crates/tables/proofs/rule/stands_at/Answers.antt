-- `rule::stands_at` meets its contract. Assumes nothing.
use Rattle.meaning.specs.Rule.{live}
use Rattle.tables.specs.Gathered.{standing}
use borrow.Author.Tests.{ne_eqb, eq-eqb}
use Rattle.tables.proofs.rule.stands_at.Goals as goal

pub returns-then-x-ne0 : goal.returns-then-x-ne0
unfolding standing live
returns-then-x-ne0 c = rw (ne_eqb c.args.x 0 c.if-x-ne0.true, c.source_of.ensures.0, c.link_of.ensures.0)

pub returns-else-x-ne0 : goal.returns-else-x-ne0
unfolding standing live
returns-else-x-ne0 c = rw (eq-eqb c.args.x 0 c.if-x-ne0.false)
