-- `update::sweep` meets its contract: the owner of one place more is left, or changed with its entry. Assumes nothing.
use Prim.Native.Nat.{◌<◌}
use Rattle.tables.proofs.Sweeping.{swept_none, swept_reads, swept_still, swept_changed}
use mathlib.Core.Path.{refl}
use native.Mathlib.Omega.{arith}
use Rattle.tables.proofs.update.sweep.Goals as goal
use Rattle.tables.proofs.update.sweep.Goals.{then-old-new, else-old-new}

pub loop-p-init : goal.loop-p-init
loop-p-init g c = swept_none

pub loop-p-preserved : goal.loop-p-preserved
loop-p-preserved g c =
    let l = c.loop-p.invariant in
    let r = c.requires.ready in
    let b : c.loop-p.p < c.args.t.0 = omega arith in
    let o = swept_reads r (omega arith) b l c.atom_at-atom.ensures c.owner_index-i.ensures.0 in
    let x = rw o at c.next-new.ensures in
    elim c.if-old-new.branch [
      | then-old-new w ↦ rw (w.label-is, w.owner-is, w.list-is)
          (swept_changed r (omega arith) b l o x w.if-old-new.true c.atom_at-atom.ensures c.owner_index-i.ensures.0 refl w.via_of-from.ensures.0 w.via_of-to.ensures.0 w.move_atom.ensures
          (rw (← w.link_number.ensures, ← w.link_number-then-old-new.ensures) w.write_entry.ensures) w.k-is)
      | else-old-new w ↦ rw (w.label-is, w.owner-is, w.list-is, w.k-is) (swept_still r (omega arith) b l o x w.if-old-new.false)
    ]
