-- What a record leaves in the box, the list and the places.
use Rattle.std.proofs.Common.{arith}
use Rattle.hallcheck.proofs.Between.{listed, goes}
use Rattle.hallcheck.proofs.print_all.Goals as goal

pub print_answer-requires : goal.print_answer-requires
print_answer-requires g c =
    listed _ _ _ _ _ _ _ c.loop-out.invariant _ _ _ _ _ _ c.take_record-step.ensures c.take_record-step.auto.list

pub loop-out-preserved : goal.loop-out-preserved
loop-out-preserved g c =
    goes _ _ _ _ _ _ _ c.loop-out.invariant _ _ _ _ _ _ c.take_record-step.ensures c.take_record-step.auto.list c.if-step-eq0.false

pub overflow_add-at : goal.overflow_add-at
overflow_add-at g c = let next = loop-out-preserved g c in omega arith

pub loop-out-smaller : goal.loop-out-smaller
loop-out-smaller g c = let next = loop-out-preserved g c in omega arith
