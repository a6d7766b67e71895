-- `take::ready` meets its contract. Assumes nothing.
use Rattle.meaning.proofs.base.Stages.{stage_once}
use Rattle.meaning.specs.Hall.{stage}
use Rattle.meaning.specs.Step.{list_room, when, checked}
use Rattle.meaning.specs.declared.hall.Phase.TheVariants.{Closed}
use Rattle.tables.specs.Outcome.{unready}
use borrow.Author.Rules.{rules}
use borrow.Author.Tests.{lt-ltb, le-ltb, eq-eqb, ne_eqb}
use lib.ListN.{length}
use mathlib.Core.Path.{◌≡◌, refl, ap}
use Rattle.tables.proofs.take.ready.Goals as goal

pub returns-then-list-lt-LIST_ROOM : goal.returns-then-list-lt-LIST_ROOM
unfolding checked unready when
returns-then-list-lt-LIST_ROOM c = rw (lt-ltb (length c.args.list.now) list_room c.if-list-lt-LIST_ROOM.true) refl

pub returns-then-ne : goal.returns-then-ne
unfolding checked unready when
returns-then-ne c =
    let early : c.args.hall.now.plan.phase ≡ Closed → ⊥ = λ e. search rules in
    rw (le-ltb (length c.args.list.now) list_room c.if-list-lt-LIST_ROOM.false, ne_eqb (stage c.args.hall.now.plan.phase) (stage Closed) (λ e. early (stage_once e))) refl

pub returns : goal.returns
unfolding checked unready when
returns c =
    let closed : c.args.hall.now.plan.phase ≡ Closed = search rules in
    rw (le-ltb (length c.args.list.now) list_room c.if-list-lt-LIST_ROOM.false, eq-eqb (stage c.args.hall.now.plan.phase) (stage Closed) (ap stage closed)) refl
