-- `rule::ties` meets its contract: no word ties where none has the rank, and else the search tells. Assumes nothing.
use Rattle.meaning.specs.Hall.{ipv4}
use Rattle.std.proofs.lemmas.Iterator.{YieldsList-from_slice}
use Rattle.std.proofs.lemmas.Iterator.Search.{any_from_yields_List}
use Rattle.tables.proofs.Rules.{any_listed, ties_nowhere}
use Rattle.tables.specs.Gathered.{tying}
use borrow.Author.Rules.{rules}
use mathlib.Core.Path.{sym, ◌∙◌}
use Rattle.tables.proofs.rule.ties.Goals as goal

pub returns-then-has_rank : goal.returns-then-has_rank
returns-then-has_rank c =
    any_from_yields_List (tying ipv4 c.args.hall.now.plan.link c.args.v c.args.w) _ _ c.any.result c.any.ensures.ran (YieldsList-from_slice c.args.hall.now.rule c.iter.ensures.rest) (λ x b q k. search rules)
    ∙ any_listed _ c.args.hall.now.rule 256 (search rules)

pub returns-else-has_rank : goal.returns-else-has_rank
returns-else-has_rank c = c.if-has_rank.false ∙ ties_nowhere _ _ c.args.hall.now.rule _ _ (search rules) (sym c.has_rank.ensures ∙ c.if-has_rank.false)
