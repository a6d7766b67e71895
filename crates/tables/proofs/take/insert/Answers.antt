-- `tables::take::insert` meets its contract: an insert is refused as its checks say, or leaves what the update leaves. Assumes nothing.
use Rattle.lent.proofs.Labelled.{held_whole}
use Rattle.lent.proofs.Steps.{order_leaves, turned_takes, update_takes}
use Rattle.meaning.specs.Records.{sort_of, phase_of}
use Rattle.meaning.specs.Step.{checked, refusal}
use Rattle.std.specs.Prelude.{Err}
use Rattle.tables.proofs.Outcomes.{all_passed, is_ready, unready_leaves, not_short}
use Rattle.tables.specs.Outcome.{told, passed_of}
use borrow.Author.Rules.{rules}
use mathlib.Core.Path.{◌≡◌, refl, sym, ap, ◌∙◌}
use Rattle.tables.proofs.take.insert.Goals as goal

pub returns-in_err-ready : goal.returns-in_err-ready
unfolding sort_of phase_of
returns-in_err-ready c = λ n.
    let is : c.from_residual.result ≡ Err c.in_err-ready.field-0.0 = search rules in
    rw is (unready_leaves c.requires _ n refl c.in_err-ready.was c.ready.ensures)

pub check_insert-requires : goal.check_insert-requires
check_insert-requires c = held_whole _ _ _ c.requires

pub returns-in_err-check_insert : goal.returns-in_err-check_insert
unfolding checked sort_of phase_of refusal told
returns-in_err-check_insert c = λ n.
    let is : c.from_residual-in_err-check_insert.result ≡ Err c.in_err-check_insert.field-0.0 = search rules in
    let why = ap checked (sym c.in_err-check_insert.was) ∙ c.check_insert.ensures in
    let ready = is_ready _ c.in_ok-ready.was c.ready.ensures in
    rw (is, all_passed n c.in_err-check_insert.field-0.0 (not_short _ _ _ why))
    (turned_takes _ _ _ _ c.requires n _ _ (sym why) ∙ order_leaves _ _ ready.0 _ n ready.1)

pub insert-listed-requires-clause-whole : goal.insert-listed-requires-clause-whole
insert-listed-requires-clause-whole c = held_whole _ _ _ c.requires

pub insert-listed-requires-clause-phase : goal.insert-listed-requires-clause-phase
insert-listed-requires-clause-phase c = (is_ready _ c.in_ok-ready.was c.ready.ensures).1

pub insert-listed-requires-clause-passes : goal.insert-listed-requires-clause-passes
unfolding checked
insert-listed-requires-clause-passes c = sym c.check_insert.ensures ∙ ap checked c.in_ok-check_insert.was

pub insert-listed-requires-clause-room : goal.insert-listed-requires-clause-room
insert-listed-requires-clause-room c = (is_ready _ c.in_ok-ready.was c.ready.ensures).0

pub returns : goal.returns
unfolding checked sort_of phase_of told passed_of
returns c = λ n.
    let ready = is_ready _ c.in_ok-ready.was c.ready.ensures in
    let passes = sym c.check_insert.ensures ∙ ap checked c.in_ok-check_insert.was in
    update_takes _ _ _ refl _ _ _ _ _ n c.known.ensures c.insert-listed.ensures.listed passes _ c.insert-listed.ensures.state
    ∙ order_leaves _ _ ready.0 _ n ready.1
