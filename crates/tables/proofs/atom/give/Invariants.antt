-- `atom::give` meets its contract. The loop's invariant: the owners at the nodes passed are given, and the state stays. Assumes nothing.
use Rattle.meaning.specs.Box.{state_of}
use Rattle.tables.proofs.Gives.{Giving}
use mathlib.Core.Path.{◌≡◌}
use Rattle.tables.proofs.atom.give.Given as goal

abbrev pub invariant-loop-v : goal.invariant-loop-v
invariant-loop-v l =
    let before = l.initial.hall in
    (state_of l.hall ≡ state_of before) × Giving before.label l.hall.label before.owner l.hall.owner l.old.0 l.new.0 l.v
