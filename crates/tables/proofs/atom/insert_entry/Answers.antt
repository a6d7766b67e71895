-- `atom::insert_entry` meets its contract: a copy one place up, and a store. Assumes nothing.
use Rattle.tables.proofs.Inserts.{moved_up}
use native.Mathlib.Omega.{arith}
use Rattle.tables.proofs.atom.insert_entry.Goals as goal

pub returns : goal.returns
returns g c =
    let e = c.copy_within.ensures in
    moved_up c.args.list.now c.copy_within.new.self c.args.n c.args.p.0 c.args.x (omega arith) (omega arith) e.len e.by_index.0 e.by_index.1 e.by_index.2
