-- `rule::overlaps` meets its contract. Assumes nothing.
use Rattle.meaning.specs.Rule.{overlap}
use borrow.Author.Tests.{lt-ltb, le-ltb}
use Rattle.tables.proofs.rule.overlaps.Goals as goal

pub returns-then-lower_of-upper_of : goal.returns-then-lower_of-upper_of
unfolding overlap
returns-then-lower_of-upper_of c =
    rw (← c.lower_of.ensures.0, ← c.upper_of.ensures.0, ← c.lower_of-then-lower_of-upper_of.ensures.0, ← c.upper_of-then-lower_of-upper_of.ensures.0, lt-ltb _ _ c.if-lower_of-upper_of.true)

pub returns-else-lower_of-upper_of : goal.returns-else-lower_of-upper_of
unfolding overlap
returns-else-lower_of-upper_of c =
    rw (← c.lower_of.ensures.0, ← c.upper_of.ensures.0, le-ltb _ _ c.if-lower_of-upper_of.false)
