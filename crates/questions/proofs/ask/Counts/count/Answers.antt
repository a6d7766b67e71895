-- `ask::Counts::count` meets its contract, fate by fate. Assumes nothing.
use Prim.Native.Nat.{ℕ, ◌+◌}
use Rattle.meaning.specs.Questions.{is_out, is_lost, is_round}
use Rattle.meaning.specs.declared.Fate.TheVariants.{Out, Lost, Round}
use Rattle.meaning.specs.declared.Fate.{Fate}
use Rattle.questions.specs.Tallied.{Counted}
use Rattle.questions.specs.declared.ask.Counts.{Counts}
use mathlib.Core.Bool.{true, false, true≢false}
use mathlib.Core.Path.{◌≡◌, refl, sym, ◌∙◌}
use native.Mathlib.Omega.{arith}
use Rattle.questions.proofs.ask.Counts.count.Goals as goal

module _ (c : Counts) (w : ℕ) where
  one_out : (f : Fate) → is_out f ≡ true → Counted c f w (record { out = c.out + w; lost = c.lost; round = c.round })
  unfolding is_out is_lost is_round
  one_out (Out l h) e = record { out = refl; lost = omega arith; round = omega arith }
  one_out (Lost v h) e = absurd (true≢false (sym e))
  one_out Round e = absurd (true≢false (sym e))

  one_lost : (f : Fate) → is_lost f ≡ true → Counted c f w (record { out = c.out; lost = c.lost + w; round = c.round })
  unfolding is_out is_lost is_round
  one_lost (Out l h) e = absurd (true≢false (sym e))
  one_lost (Lost v h) e = record { out = omega arith; lost = refl; round = omega arith }
  one_lost Round e = absurd (true≢false (sym e))

  one_round : (f : Fate) → is_out f ≡ false → is_lost f ≡ false → Counted c f w (record { out = c.out; lost = c.lost; round = c.round + w })
  unfolding is_out is_lost is_round
  one_round (Out l h) e g = absurd (true≢false e)
  one_round (Lost v h) e g = absurd (true≢false g)
  one_round Round e g = record { out = omega arith; lost = omega arith; round = refl }

pub returns-then-out : goal.returns-then-out
returns-then-out c = λ f o l. one_out _ _ f (o ∙ c.if-out.true)

pub returns-then-lost : goal.returns-then-lost
returns-then-lost c = λ f o l. one_lost _ _ f (l ∙ c.if-lost.true)

pub returns-else-lost : goal.returns-else-lost
returns-else-lost c = λ f o l. one_round _ _ f (o ∙ c.if-out.false) (l ∙ c.if-lost.false)
