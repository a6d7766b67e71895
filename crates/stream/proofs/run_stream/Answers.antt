-- `stream::run_stream` meets its contract: a fresh hall runs all, and a record that is gone past leaves the rest of the run. Assumes nothing.
use Rattle.std.proofs.Common.{arith}
use Rattle.stream.proofs.Running.{whole_rest, running_start, running_stops, running_goes}
use Rattle.stream.proofs.run_stream.Goals as goal

pub loop-step-init : goal.loop-step-init
loop-step-init c = let E = c.clear_box.ensures in running_start _ _ _ _ _ E.state E.labels E.owners

pub returns-then-step-eq0 : goal.returns-then-step-eq0
returns-then-step-eq0 c =
    running_stops _ _ _ _ _ _ _ _ c.loop-step.invariant _ _ _ _ _ _ _ c.take_record-step.ensures (whole_rest c.args.bytes.now c.loop-step.at) (omega arith)

pub loop-step-preserved : goal.loop-step-preserved
loop-step-preserved c =
    running_goes _ _ _ _ _ _ _ _ c.loop-step.invariant _ _ _ _ _ _ _ c.take_record-step.ensures (whole_rest c.args.bytes.now c.loop-step.at) (λ z. omega arith)

pub overflow_add-at : goal.overflow_add-at
overflow_add-at c =
    let next = running_goes _ _ _ _ _ _ _ _ c.loop-step.invariant _ _ _ _ _ _ _ c.take_record-step.ensures (whole_rest c.args.bytes.now c.loop-step.at) (λ z. omega arith) in
    omega arith

pub loop-step-smaller : goal.loop-step-smaller
loop-step-smaller c =
    let next = running_goes _ _ _ _ _ _ _ _ c.loop-step.invariant _ _ _ _ _ _ _ c.take_record-step.ensures (whole_rest c.args.bytes.now c.loop-step.at) (λ z. omega arith) in
    omega arith
