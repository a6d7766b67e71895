-- `rule::take_in` meets its contract. Assumes nothing.
use Rattle.tables.proofs.Rules.{stands_marked, gathered_take, gathered_skip}
use borrow.Author.Rules.{rules}
use mathlib.Core.Bool.{true≢false}
use mathlib.Core.Path.{sym, ◌∙◌}
use Rattle.tables.proofs.rule.take_in.Goals as goal
use Rattle.tables.proofs.rule.take_in.Goals.{else-stands_on-via-then-stands_on+else-overlaps, else-stands_on-via-else-stands_on}

pub returns-then-overlaps : goal.returns-then-overlaps
returns-then-overlaps c =
    (search rules, λ link v m g. gathered_take g (search rules) (sym (stands_marked _ link v _ _ _ m c.stands_on.ensures) ∙ c.if-stands_on.true))

pub returns : goal.returns
returns c = (
  search rules,
  λ link v m g. gathered_skip g (elim c.else-stands_on.branch [
    | else-stands_on-via-then-stands_on+else-overlaps w ↦ λ s o. true≢false (sym o ∙ sym w.overlaps.ensures ∙ w.if-overlaps.false)
    | else-stands_on-via-else-stands_on w ↦ λ s o. true≢false (sym s ∙ sym (stands_marked _ link v _ _ _ m c.stands_on.ensures) ∙ w.if-stands_on.false)
  ]),
)
