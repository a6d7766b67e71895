-- `rule::better_of` meets its contract. Each way out is a law of `Ranks`. Assumes nothing.
use Rattle.meaning.proofs.rules.Ranks.{keep_out, take_first, higher_by, lower_by}
use Rattle.tables.proofs.Rules.{covers_below, covers_past, covers_between}
use mathlib.Core.Path.{refl}
use native.Mathlib.Omega.{arith}
use Rattle.tables.proofs.rule.better_of.Goals as goal
use Rattle.tables.proofs.rule.better_of.Goals.{then-a-lower_of-via-then-a-lower_of, then-a-lower_of-via-else-a-lower_of+then-upper_of-a}

pub returns-then-a-lower_of : goal.returns-then-a-lower_of
returns-then-a-lower_of c = (
  keep_out _ _ _ _ (elim c.then-a-lower_of.branch [
    | then-a-lower_of-via-then-a-lower_of w ↦ covers_below _ _ _ _ c.lower_of.ensures.0 w.if-a-lower_of.true
    | then-a-lower_of-via-else-a-lower_of+then-upper_of-a w ↦ covers_past _ _ _ _ _ c.lower_of.ensures.0 w.upper_of.ensures.0 w.if-upper_of-a.true
  ]),
  c.requires.1,
)

pub returns-in-None : goal.returns-in-None
returns-in-None c =
    let in-it = covers_between _ _ _ _ _ c.lower_of.ensures.0 c.upper_of.ensures.0 c.if-a-lower_of.false c.if-upper_of-a.false in
    rw c.in-None.is (take_first _ _ _ _ in-it refl, c.requires.0)

pub returns-in-Some : goal.returns-in-Some
returns-in-Some c =
    let in-it = covers_between _ _ _ _ _ c.lower_of.ensures.0 c.upper_of.ensures.0 c.if-a-lower_of.false c.if-upper_of-a.false in
    let h = rw c.in-Some.is at c.requires.1 in
    rw c.in-Some.is (higher_by _ _ _ _ _ _ c.rank_of.ensures.0 c.rank_of-rank.ensures.0 in-it (λ e. omega (arith, h)) c.if-rank_of-rank.true, c.requires.0)

pub returns-in-Some-2 : goal.returns-in-Some-2
returns-in-Some-2 c =
    let in-it = covers_between _ _ _ _ _ c.lower_of.ensures.0 c.upper_of.ensures.0 c.if-a-lower_of.false c.if-upper_of-a.false in
    let h = rw c.in-Some.is at c.requires.1 in
    rw c.in-Some.is (lower_by _ _ _ _ _ _ c.rank_of.ensures.0 c.rank_of-rank.ensures.0 in-it (λ e. omega (arith, h)) c.if-rank_of-rank.false, h)
