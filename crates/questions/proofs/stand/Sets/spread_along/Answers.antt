-- `stand::Sets::spread_along` meets its contract: it does nothing, adds nothing, or lets one row grow. Assumes nothing.
use Rattle.lent.specs.Owners.{end_in}
use Rattle.questions.proofs.Standing.{along_none, along_still, along_new, joined_alike}
use mathlib.Core.Path.{refl}
use native.Mathlib.Omega.{arith}
use Rattle.questions.proofs.stand.Sets.spread_along.Goals as goal
use Rattle.questions.proofs.stand.Sets.spread_along.Goals.{else-end-lt16-via-then-end-lt16+else-join, else-end-lt16-via-else-end-lt16}

pub returns-then-join : goal.returns-then-join
unfolding end_in
returns-then-join c =
    along_new c.requires.0 (joined_alike c.on_link.ensures.1 c.join.ensures) c.source_of.ensures.0 refl c.if-end-lt16.true _ c.requires.2

pub returns-else-end-lt16 : goal.returns-else-end-lt16
unfolding end_in
returns-else-end-lt16 c =
    elim c.else-end-lt16.branch [
      | else-end-lt16-via-then-end-lt16+else-join w ↦
          rw w.self-is (along_still c.requires.0 (joined_alike w.on_link.ensures.1 w.join.ensures) w.source_of.ensures.0 refl w.if-end-lt16.true w.if-join.false)
      | else-end-lt16-via-else-end-lt16 w ↦ rw w.self-is (along_none _ _ _ (omega arith) (λ h. omega (arith, h, w.if-end-lt16.false)))
    ]
