-- `tables::take::remove` meets its contract: a remove is refused as its checks say, or leaves what the update leaves. Assumes nothing.
use Rattle.lent.proofs.Labelled.{held_whole}
use Rattle.lent.proofs.Steps.{order_leaves, turned_takes, update_takes}
use Rattle.meaning.specs.Records.{sort_of, phase_of}
use Rattle.meaning.specs.Step.{checked, refusal}
use Rattle.std.specs.Prelude.{Err}
use Rattle.tables.proofs.Outcomes.{all_passed, is_ready, unready_leaves, not_short}
use Rattle.tables.specs.Outcome.{told, passed_of}
use borrow.Author.Rules.{rules}
use mathlib.Core.Path.{◌≡◌, refl, sym, ap, ◌∙◌}
use Rattle.tables.proofs.take.remove.Goals as goal

pub returns-in_err-ready : goal.returns-in_err-ready
unfolding sort_of phase_of
returns-in_err-ready c = λ n.
    let is : c.from_residual.result ≡ Err c.in_err-ready.field-0.0 = search rules in
    rw is (unready_leaves c.requires _ n refl c.in_err-ready.was c.ready.ensures)

pub returns-in_err-check_remove : goal.returns-in_err-check_remove
unfolding checked sort_of phase_of refusal told
returns-in_err-check_remove c = λ n.
    let is : c.from_residual-in_err-check_remove.result ≡ Err c.in_err-check_remove.field-0.0 = search rules in
    let why = ap checked (sym c.in_err-check_remove.was) ∙ c.check_remove.ensures in
    let ready = is_ready _ c.in_ok-ready.was c.ready.ensures in
    rw (is, all_passed n c.in_err-check_remove.field-0.0 (not_short _ _ _ why))
    (turned_takes _ _ _ _ c.requires n _ _ (sym why) ∙ order_leaves _ _ ready.0 _ n ready.1)

pub remove-listed-requires-clause-whole : goal.remove-listed-requires-clause-whole
remove-listed-requires-clause-whole c = held_whole _ _ _ c.requires

pub remove-listed-requires-clause-phase : goal.remove-listed-requires-clause-phase
remove-listed-requires-clause-phase c = (is_ready _ c.in_ok-ready.was c.ready.ensures).1

pub remove-listed-requires-clause-passes : goal.remove-listed-requires-clause-passes
unfolding checked
remove-listed-requires-clause-passes c = sym c.check_remove.ensures ∙ ap checked c.in_ok-check_remove.was

pub remove-listed-requires-clause-room : goal.remove-listed-requires-clause-room
remove-listed-requires-clause-room c = (is_ready _ c.in_ok-ready.was c.ready.ensures).0

pub returns : goal.returns
unfolding checked sort_of phase_of told passed_of
returns c = λ n.
    let ready = is_ready _ c.in_ok-ready.was c.ready.ensures in
    let passes = sym c.check_remove.ensures ∙ ap checked c.in_ok-check_remove.was in
    update_takes _ _ _ refl _ _ _ _ _ n c.known.ensures c.remove-listed.ensures.listed passes _ c.remove-listed.ensures.state
    ∙ order_leaves _ _ ready.0 _ n ready.1
