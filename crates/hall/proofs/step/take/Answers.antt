-- `hall::step::take` meets its contract: a set-up record leaves what its change of the plan says; the arms of the updates say what their calls do;
-- of a question the answer is all that it leaves. Assumes nothing.
use Rattle.std.proofs.Common.{ap}
use Rattle.lent.proofs.Labelled.{held_whole}
use Rattle.lent.proofs.Others.{comes_after, is_asked}
use Rattle.lent.proofs.Steps.{reply_leaves}
use Rattle.meaning.specs.Records.{hall, link, close, sort_of}
use Rattle.hall.proofs.SetUp.{sets_up}
use Rattle.hall.proofs.step.take.Goals as goal

pub add_link-requires : goal.add_link-requires
add_link-requires c = let L = (held_whole _ _ _ c.requires.held).sound.laid in (L.small, L.long)

pub returns-in-Hall : goal.returns-in-Hall
unfolding sort_of
returns-in-Hall c = rw c.told-answer.ensures (sets_up _ c.requires.held _ c.requires.room _ _ (hall c.in-Hall.nodes) (ap sort_of c.in-Hall.is) c.requires.order _ _ c.open.ensures)

pub returns-in-Link : goal.returns-in-Link
unfolding sort_of
returns-in-Link c = rw c.told-answer-in-Link.ensures (sets_up _ c.requires.held _ c.requires.room _ _ (link c.in-Link.source c.in-Link.code c.in-Link.number) (ap sort_of c.in-Link.is) c.requires.order _ _ c.add_link.ensures)

pub returns-in-Close : goal.returns-in-Close
unfolding sort_of
returns-in-Close c = rw c.told-answer-in-Close.ensures (sets_up _ c.requires.held _ c.requires.room _ _ close (ap sort_of c.in-Close.is) c.requires.order _ _ c.shut.ensures)

pub returns-in_default : goal.returns-in_default
returns-in_default c =
    let asked = is_asked _ c.in_default.not-Insert c.in_default.not-Remove (comes_after _ c.in_default.not-Hall c.in_default.not-Link c.in_default.not-Close) in
    rw c.reply-answer.ensures (reply_leaves _ _ _ _ c.requires.held c.requires.room _ _ asked)
