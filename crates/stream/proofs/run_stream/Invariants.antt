-- `stream::run_stream` meets its contract: after each record, what is left to run is the run. Assumes nothing.
use Rattle.std.proofs.Common.{◌-◌, length}
use Rattle.meaning.specs.Box.{state_of}
use Rattle.stream.proofs.Running.{Running}
use Rattle.stream.proofs.run_stream.Given as goal

abbrev pub invariant-loop-step : goal.invariant-loop-step
invariant-loop-step l = Running l.bytes l.initial.list (state_of l.hall) l.hall.label l.hall.owner l.list l.at l.past

abbrev pub decreases-loop-step : goal.decreases-loop-step
decreases-loop-step l = length l.bytes - l.at
