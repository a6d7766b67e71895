-- `hall::step::open` meets its contract: a hall record is refused by its count, or sets the nodes and the phase. Assumes nothing.
use Rattle.std.proofs.Common.{refl, eq-eqb, ne_eqb, lt-ltb, le-ltb}
use mathlib.Core.Logic.{inl, inr}
use Rattle.meaning.specs.Step.{when, set_up_refusal, planned}
use Rattle.hall.proofs.step.open.Goals as goal

pub returns-then-nodes-eq0 : goal.returns-then-nodes-eq0
unfolding set_up_refusal when
returns-then-nodes-eq0 c =
    elim c.then-nodes-eq0.either [
      | inl h ↦ (rw (eq-eqb c.args.nodes 0 h) refl, refl)
      | inr h ↦ (rw (ne_eqb c.args.nodes 0 h.0, lt-ltb 16 c.args.nodes h.1) refl, refl)
    ]

pub returns : goal.returns
unfolding set_up_refusal when planned
returns c = (rw (ne_eqb c.args.nodes 0 c.if-nodes-eq0.false, le-ltb 16 c.args.nodes c.if-nodes-gt16.false) refl, refl)
