-- `update::write_entry` meets its contract. The loop's invariant: the words below i are written. Assumes nothing.
use Prim.Native.Nat.{◌*◌}
use lib.Seq.{paste}
use mathlib.Core.Path.{◌≡◌}
use Rattle.tables.proofs.update.write_entry.Given as goal

abbrev pub invariant-loop-i : goal.invariant-loop-i
invariant-loop-i l = l.list ≡ paste l.initial.list (5 * l.k) l.fn.entry l.i
