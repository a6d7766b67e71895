-- `take::step` meets its contract. Assumes nothing.
use Rattle.meaning.specs.declared.Refusal.TheVariants.{ShortList}
use Rattle.tables.proofs.Outcomes.{all_passed}
use Rattle.tables.specs.Outcome.{told, passed_of}
use borrow.Author.Rules.{rules}
use mathlib.Core.Path.{◌≡◌, refl}
use Rattle.tables.proofs.take.step.Goals as goal

pub returns-in-Ok : goal.returns-in-Ok
unfolding told passed_of
returns-in-Ok c = rw c.in-Ok.is refl

pub returns-then-eq : goal.returns-then-eq
unfolding told passed_of
returns-then-eq c =
    let is : c.in-Err.why ≡ ShortList = search rules in
    rw (c.in-Err.is, is) refl

pub returns-else-eq : goal.returns-else-eq
unfolding told
returns-else-eq c = rw (c.in-Err.is, all_passed c.args.passed c.in-Err.why (λ e. search rules)) refl
