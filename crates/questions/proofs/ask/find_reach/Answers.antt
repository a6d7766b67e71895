-- `ask::find_reach` meets its contract. The loop's invariant: at no place below p the walk from v comes to w. Assumes nothing.
use Rattle.lent.proofs.Questions.{reach_none, reach_is}
use Rattle.questions.proofs.Leads.{together, no_reach}
use Rattle.questions.proofs.Moves.{stands_at}
use mathlib.Core.Path.{sym, ◌∙◌}
use native.Mathlib.Omega.{arith}
use Rattle.questions.proofs.ask.find_reach.Goals as goal

pub returns-then-to-v-eq0 : goal.returns-then-to-v-eq0
returns-then-to-v-eq0 c =
    sym (no_reach c.requires.whole _ _ _ c.toward_walks-to.ensures (omega (arith, c.requires.v_lt_nodes, c.requires.whole.sound.laid.small)) c.if-to-v-eq0.true)

pub comes_to-requires : goal.comes_to-requires
comes_to-requires c =
    let W = c.requires.whole in
    let s = rw (← c.atom_at-atom.ensures) at (stands_at W (rw c.places-p-end.ensures at c.loop-p-test.true) c.requires.v_lt_nodes) in
    (s, c.toward_walks-to.ensures.each _ (together W) _ s.atom)

pub returns-then-comes_to : goal.returns-then-comes_to
returns-then-comes_to c =
    sym (reach_is _ _ _ c.requires.whole _ _ _ (omega arith) c.loop-p.invariant (rw c.atom_at-atom.ensures at (sym c.comes_to.ensures ∙ c.if-comes_to.true)))

pub returns : goal.returns
returns c = sym (reach_none _ _ _ c.requires.whole _ _ (λ q h. c.loop-p.invariant q (omega arith)))
