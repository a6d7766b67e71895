-- `ask::find_loop` meets its contract. The outer loop's invariant: no loop is found, and at no place below p a node lies on a circle.
-- The inner loop's: nor does a node of `off`, of the atom at place p; and with each look `off` lacks fewer nodes. Assumes nothing.
use Prim.Native.Nat.{ℕ}
use Rattle.lent.proofs.Questions.{NoCircle, small_atom, loop_none, loop_is}
use Rattle.lent.specs.Nodes.{Off}
use Rattle.questions.proofs.Leads.{together, no_loop}
use Rattle.questions.proofs.Missing.{fewer}
use Rattle.questions.proofs.Moves.{stands_at}
use Rattle.questions.specs.Moves.{IsFirstOn, IsSeen, Below}
use borrow.Author.Count.{below_more}
use mathlib.Core.Option.{Option}
use mathlib.Core.Path.{sym, ◌∙◌}
use native.Mathlib.Omega.{arith}
use Rattle.questions.proofs.ask.find_loop.Goals as goal

-- where the nodes of `off` lie on no circle, and every node below v is one of them
clear : (next : ℕ → Option ℕ) (end : ℕ → ℕ) (n off v : ℕ) → Off next end n off → Below off v → NoCircle next end n v
clear next end n off v F b u l = F.none_on u (b u l)

pub returns-then-never : goal.returns-then-never
returns-then-never c = sym (no_loop c.requires _ c.off_walks-never.ensures c.if-never.true)

pub loop-v-init : goal.loop-v-init
loop-v-init c =
    let W = c.requires in
    (c.search.invariant.0, c.off_walks-never.ensures.each _ (together W) _ _ (rw c.atom_at-atom.ensures (small_atom _ _ _ W _ (rw c.places-p-end.ensures at c.search-test.true))))

pub look-requires : goal.look-requires
unfolding IsFirstOn
look-requires c =
    (rw c.atom_at-atom.ensures (stands_at c.requires (rw c.places-p-end.ensures at c.search-test.true) (omega (arith, c.in-Some.ensures.0))), c.loop-v.invariant.1)

pub loop-v-smaller : goal.loop-v-smaller
unfolding IsFirstOn IsSeen
loop-v-smaller c =
    let first = c.in-Some.ensures in
    let seen = c.in-Some-look.ensures in
    fewer _ _ seen.2 _ _ (omega (arith, first.0)) first.2 seen.1

pub loop-v-preserved : goal.loop-v-preserved
unfolding IsSeen
loop-v-preserved c = (c.loop-v.invariant.0, c.in-Some-look.ensures.0)

pub search-preserved : goal.search-preserved
unfolding IsFirstOn
search-preserved c =
    let e = c.atom_at-atom.ensures in
    (c.loop-v.invariant.0, below_more _ _ c.search.invariant.1 (rw e at (clear _ _ _ _ _ c.loop-v.invariant.1 c.in_default.ensures)))

pub returns-after-search : goal.returns-after-search
returns-after-search c =
    c.search.invariant.0 ∙ sym (loop_none _ _ _ c.requires (λ q h. c.search.invariant.1 q (omega arith)))

pub returns-in_default-look : goal.returns-in_default-look
unfolding IsFirstOn IsSeen
returns-in_default-look c =
    let e = c.atom_at-atom.ensures in
    let first = c.in-Some.ensures in
    let q = rw e at c.in_default-look.ensures in
    sym (loop_is _ _ _ c.requires _ _ (omega arith) (omega (arith, first.0)) c.search.invariant.1 (rw e at (clear _ _ _ _ _ c.loop-v.invariant.1 first.1)) q)
