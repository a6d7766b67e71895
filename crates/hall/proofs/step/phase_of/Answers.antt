-- `hall::step::phase_of` meets its contract: in each arm what was told of the record is what the definition goes by. Assumes nothing.
use Rattle.std.proofs.Common.{sym, rules}
use mathlib.Core.Logic.{inl, inr}
use Rattle.meaning.specs.Records.{sort_of, set_up_phase, phase_of}
use Rattle.lent.proofs.Others.{comes_after}
use Rattle.hall.proofs.step.phase_of.Goals as goal

pub returns-in-Hall : goal.returns-in-Hall
unfolding sort_of set_up_phase phase_of
returns-in-Hall c = search rules

pub returns-in-Link : goal.returns-in-Link
unfolding sort_of set_up_phase phase_of
returns-in-Link c =
    elim c.in-Link.is [
      | inl h ↦ rw h.3
      | inr h ↦ rw h
    ]

pub returns-in_default : goal.returns-in_default
returns-in_default c = sym (comes_after _ c.in_default.not-Hall c.in_default.not-Link c.in_default.not-Close)
