-- `rule::ties_with` meets its contract. Assumes nothing.
use Rattle.tables.proofs.Rules.{ties_apart, ties_if, ties_elsewhere}
use borrow.Author.Tests.{ne_eqb}
use mathlib.Core.Bool.{true≢false}
use mathlib.Core.Path.{sym, ◌∙◌}
use Rattle.tables.proofs.rule.ties_with.Goals as goal
use Rattle.tables.proofs.rule.ties_with.Goals.{then-rank_of, else-rank_of}

pub returns-then-stands_at : goal.returns-then-stands_at
returns-then-stands_at c =
    c.overlaps.ensures
    ∙ elim c.if-rank_of.branch [
      | then-rank_of w ↦ ties_if _ _ _ _ _ _ _ c.rank_of.ensures.0 c.rank_of-2.ensures.0 w.if-rank_of.true (sym w.stands_at.ensures ∙ sym w.value-is ∙ c.if-stands_at.true)
      | else-rank_of w ↦ absurd (true≢false (sym c.if-stands_at.true ∙ w.value-is ∙ ne_eqb _ _ w.if-rank_of.false))
    ]

pub returns-else-stands_at : goal.returns-else-stands_at
returns-else-stands_at c =
    c.if-stands_at.false
    ∙ elim c.if-rank_of.branch [
      | then-rank_of w ↦ ties_elsewhere _ _ _ _ _ (sym w.stands_at.ensures ∙ sym w.value-is ∙ c.if-stands_at.false)
      | else-rank_of w ↦ ties_apart _ _ _ _ _ _ _ c.rank_of.ensures.0 c.rank_of-2.ensures.0 w.if-rank_of.false
    ]
