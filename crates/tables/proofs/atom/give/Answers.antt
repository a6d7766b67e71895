-- `atom::give` meets its contract. The loop's invariant: the owners at the nodes passed are given, and the state stays. Assumes nothing.
use Rattle.tables.proofs.Gives.{give_start, give_none, give_put, give_end}
use borrow.Author.Rules.{rules}
use native.Mathlib.Omega.{arith}
use mathlib.Core.Path.{refl}
use Rattle.tables.proofs.atom.give.Goals as goal
use Rattle.tables.proofs.atom.give.Goals.{then-e-ne0, else-e-ne0}

pub loop-v-init : goal.loop-v-init
loop-v-init c = (refl, give_start _ _ _ _)

pub loop-v-preserved : goal.loop-v-preserved
loop-v-preserved c =
    let l = c.loop-v.invariant in
    let p = c.requires in
    let i = c.owner_index.ensures.0 in
    let j = c.owner_index-in-loop-v.ensures.0 in
    elim c.if-e-ne0.branch [
      | then-e-ne0 w ↦ rw (w.hall-is, i, j) (l.0, give_put l.1 (search rules) p.2 p.1 (search rules) (rw i at w.if-e-ne0.true) (rw i at w.put.ensures))
      | else-e-ne0 w ↦ rw (w.hall-is, i, j) (l.0, give_none l.1 (search rules) p.2 p.1 (search rules) (rw i at w.if-e-ne0.false))
    ]

pub returns : goal.returns
returns c = record { given = give_end c.loop-v.invariant.1 (omega arith); state = c.loop-v.invariant.0 }
