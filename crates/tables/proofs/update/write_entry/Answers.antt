-- `update::write_entry` meets its contract: one word more is written. Assumes nothing.
use Rattle.std.proofs.lemmas.List.Edits.{paste_more}
use native.Mathlib.Omega.{arith}
use Rattle.tables.proofs.update.write_entry.Goals as goal

pub loop-i-preserved : goal.loop-i-preserved
loop-i-preserved c = rw c.loop-i.invariant (paste_more _ _ _ c.loop-i.i 0 (omega arith) (omega arith))
