-- `hall::step::add_link` meets its contract: a link is refused as its checks say, or its word is stored past the last link. Assumes nothing.
use Rattle.std.proofs.Common.{◌≡◌, refl, ap, ◌∙◌, ◌+◌, ◌*◌, arith}
use Rattle.meaning.specs.Hall.{link_word}
use Rattle.meaning.specs.Step.{planned}
use Rattle.meaning.proofs.records.Checks.{clear_link}
use Rattle.hall.proofs.step.add_link.Goals as goal

pub pack-requires : goal.pack-requires
pack-requires c = omega (arith, (clear_link _ _ _ _ c.in_ok-end.ensures.0).source, c.requires.0)

pub bounds-plan-plan : goal.bounds-plan-plan
bounds-plan-plan c = (clear_link _ _ _ _ c.in_ok-end.ensures.0).room

pub overflow_add-plan : goal.overflow_add-plan
overflow_add-plan c = omega (arith, (clear_link _ _ _ _ c.in_ok-end.ensures.0).room)

pub returns : goal.returns
unfolding planned
returns c =
    let e = c.in_ok-end.ensures in
    let w : c.pack.result ≡ link_word c.args.source (c.args.code * 256 + c.args.number) = c.pack.ensures ∙ ap (link_word c.args.source) e.1 in
    (e.0, rw w refl)
