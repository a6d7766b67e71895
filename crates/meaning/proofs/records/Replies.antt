-- The answer to a question alone: what it comes to. For the code that answers. Assumes nothing.
use mathlib.Core.Path.{◌≡◌, refl, ap}
use mathlib.Core.Bool.{false}
use mathlib.Core.Option.{none, some}
use borrow.Author.Tests.{eq-eqb, ne_eqb}
use Rattle.meaning.specs.declared.Answer.TheVariants.{Refused}
use Rattle.meaning.specs.declared.Record.{Record}
use Rattle.meaning.specs.Search.{pick}
use Rattle.meaning.specs.declared.Refusal.{Refusal}
use Rattle.meaning.specs.declared.Refusal.TheVariants.{OutOfOrder}
use Rattle.meaning.specs.declared.hall.Phase.TheVariants.{Closed}
use Rattle.meaning.proofs.base.Stages.{stage_once}
use Rattle.meaning.specs.Hall.{stage, State}
use Rattle.meaning.specs.Questions.{by_address}
use Rattle.meaning.specs.Records.{Question, Sort, set_up, update, question, sort_of, phase_of, is_question}
use Rattle.meaning.specs.Step.{when, question_refusal, refusal, turned_by, only, answers, accepted, taken, step_for, reply_to}

module _ (m : State) (r : Record) where
  -- it asks nothing
  pub reply_none : is_question (sort_of r) ≡ false → reply_to m r ≡ Refused OutOfOrder
  unfolding reply_to
  reply_none q = rw q

  -- the hall is not closed
  pub reply_early : (m.plan.phase ≡ Closed → ⊥) → reply_to m r ≡ Refused OutOfOrder
  unfolding reply_to is_question step_for phase_of when taken only
  reply_early o = go (sort_of r)
    where
      go : (r : Sort) → pick (is_question r) (taken (by_address m) m 0 r (turned_by m r)).answer (Refused OutOfOrder) ≡ Refused OutOfOrder
      go (set_up u) = refl
      go (update u) = refl
      go (question q) = rw (ne_eqb (stage m.plan.phase) 2 (λ e. o (stage_once e)))

  module _ (q : Question) (asks : sort_of r ≡ question q) (o : m.plan.phase ≡ Closed) where
    -- it is refused by its own checks
    pub reply_turned : (k : Refusal) → question_refusal m.plan q ≡ some k → reply_to m r ≡ Refused k
    unfolding reply_to is_question step_for phase_of when refusal taken only
    reply_turned k e = rw (asks, eq-eqb (stage m.plan.phase) 2 (ap stage o), e)

    -- it is answered
    pub reply_given : question_refusal m.plan q ≡ none → reply_to m r ≡ by_address m q
    unfolding reply_to is_question step_for phase_of when refusal taken accepted answers
    reply_given e = rw (asks, eq-eqb (stage m.plan.phase) 2 (ap stage o), e)
