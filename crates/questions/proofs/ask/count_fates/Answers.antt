-- `ask::count_fates` meets its contract. The loop's invariant: each count is that of the addresses below place p. Assumes nothing.
use Prim.Native.Nat.{◌<◌}
use Rattle.lent.proofs.Questions.{small_atom, tally_none, tally_fits, tally_more, tally_is}
use Rattle.lent.proofs.Sets.{carries_of}
use mathlib.Core.Path.{◌≡◌, refl, sym, ◌∙◌}
use native.Mathlib.Omega.{arith}
use Rattle.questions.proofs.ask.count_fates.Goals as goal

pub loop-p-init : goal.loop-p-init
loop-p-init c =
    let e = c.default-counts.ensures in
    rw (e.0, e.1.0, e.1.1) (tally_none _ _)

pub count-requires : goal.count-requires
count-requires c = tally_fits _ _ _ c.requires.whole _ _ _ _ _ (omega arith) c.loop-p.invariant

pub loop-p-preserved : goal.loop-p-preserved
loop-p-preserved c =
    let W = c.requires.whole in
    let D = c.divide.ensures in
    let h = rw c.places-p-end.ensures at c.loop-p-test.true in
    let C = carries_of _ _ _ W in
    let small : c.atom_at-atom.result.0 < 512 = rw c.atom_at-atom.ensures (small_atom _ _ _ W _ h) in
    let o = c.has-out.ensures ∙ D.out _ _ _ C c.requires.v_lt_nodes small in
    let t = c.has-lost.ensures ∙ D.lost _ _ _ C c.requires.v_lt_nodes small in
    let n = rw c.atom_at-atom.ensures at (c.count.ensures _ (sym o) (sym t)) in
    rw (n.out, n.lost, n.round) (tally_more _ _ _ W _ _ _ _ _ h c.loop-p.invariant _ refl)

pub returns : goal.returns
returns c =
    let e : c.loop-p.p ≡ c.args.hall.now.atoms.count = omega arith in
    sym (tally_is _ _ _ c.requires.whole _ _ _ _ (rw e at c.loop-p.invariant))
