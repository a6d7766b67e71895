-- `hall::step::take_record` meets its contract: too short a list, what was read, the order, and then what the record does. Assumes nothing.
use Rattle.std.proofs.Common.{◌≡◌, refl, sym, ◌∙◌, arith, rules}
use Rattle.meaning.proofs.records.Said.{read_once}
use Rattle.meaning.specs.Records.{no_more, got}
use Rattle.lent.proofs.Steps.{short_leaves, end_leaves, unread_leaves, disorder_leaves, read_leaves}
use Rattle.hall.proofs.step.take_record.Goals as goal

pub returns-then-list-lt-LIST_ROOM : goal.returns-then-list-lt-LIST_ROOM
returns-then-list-lt-LIST_ROOM c = rw c.refused.ensures (short_leaves _ _ _ _ c.requires _ (omega arith) ∙ read_leaves _ _ _ _ refl)

pub returns-in-Ok-None : goal.returns-in-Ok-None
returns-in-Ok-None c =
    let nothing : c.read_record.result ≡ no_more = search rules in
    end_leaves _ _ _ _ c.requires (omega arith) ∙ read_leaves _ _ _ _ (sym (read_once _ _ c.read_record.ensures) ∙ nothing)

pub returns-in-Err : goal.returns-in-Err
returns-in-Err c =
    rw c.refused-in-Err.ensures
    (unread_leaves _ _ _ _ c.requires (omega arith) _ ∙ read_leaves _ _ _ _ (sym (read_once _ _ c.read_record.ensures) ∙ c.in-Err.is))

pub returns-then-ne : goal.returns-then-ne
returns-then-ne c =
    let it : c.read_record.result ≡ got c.in-Ok-Some.what c.in-Ok-Some.passed = search rules in
    rw c.refused-then-ne.ensures
    (disorder_leaves _ _ _ _ c.requires (omega arith) _ _ (λ e. search rules) ∙ read_leaves _ _ _ _ (sym (read_once _ _ c.read_record.ensures) ∙ it))

pub returns-else-ne : goal.returns-else-ne
returns-else-ne c =
    let it : c.read_record.result ≡ got c.in-Ok-Some.what c.in-Ok-Some.passed = search rules in
    c.take.ensures ∙ read_leaves _ _ _ _ (sym (read_once _ _ c.read_record.ensures) ∙ it)
