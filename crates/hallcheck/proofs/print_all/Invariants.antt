-- Before each record the hall came from a fresh one by records.
use Rattle.std.proofs.Common.{◌-◌, length}
use Rattle.meaning.specs.Box.{state_of}
use Rattle.hallcheck.proofs.Between.{Between}
use Rattle.hallcheck.proofs.print_all.Given as goal

abbrev pub invariant-loop-out : goal.invariant-loop-out
invariant-loop-out g l = Between l.bytes (state_of l.hall) l.hall.label l.hall.owner l.list l.at l.place

abbrev pub decreases-loop-out : goal.decreases-loop-out
decreases-loop-out g l = length l.bytes - l.at
