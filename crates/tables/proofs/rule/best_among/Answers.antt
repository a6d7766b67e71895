-- `rule::best_among` meets its contract. The loop's invariant: the best of those passed. Assumes nothing.
use Rattle.tables.proofs.Rules.{best_in_none, best_in_more}
use borrow.Author.Rules.{rules}
use Rattle.tables.proofs.rule.best_among.Goals as goal

pub loop-i-init : goal.loop-i-init
loop-i-init c = (best_in_none _ _ _, search rules)

pub loop-i-preserved : goal.loop-i-preserved
loop-i-preserved c = (best_in_more _ _ _ _ _ _ c.loop-i.invariant.0 c.better_of-best.ensures.0, c.better_of-best.ensures.1)
