-- `print::number::pack_eight` meets its contract. Assumes nothing.
use Rattle.print.proofs.Lanes.{hundreds_are, pairs_fit, tens_fit, digits_are}
use native.Mathlib.Omega.{arith}
use Rattle.print.proofs.number.pack_eight.Goals as goal

pub overflow_mul-pairs-2 : goal.overflow_mul-pairs-2
overflow_mul-pairs-2 c = record { fits = omega (arith, hundreds_are c.args.n c.requires) }

pub overflow_sub-pairs : goal.overflow_sub-pairs
overflow_sub-pairs c = omega (arith, hundreds_are c.args.n c.requires)

pub overflow_mul-tens : goal.overflow_mul-tens
overflow_mul-tens c = record { fits = omega (arith, pairs_fit c.args.n c.requires) }

pub overflow_mul-result : goal.overflow_mul-result
overflow_mul-result c = record { fits = omega (arith, pairs_fit c.args.n c.requires) }

pub overflow_add-result : goal.overflow_add-result
overflow_add-result c = record { fits = omega (arith, pairs_fit c.args.n c.requires) }

pub overflow_mul-result-2 : goal.overflow_mul-result-2
overflow_mul-result-2 c = record { fits = omega (arith, pairs_fit c.args.n c.requires, tens_fit c.args.n c.requires) }

pub overflow_sub-result : goal.overflow_sub-result
overflow_sub-result c = omega (arith, tens_fit c.args.n c.requires)

pub returns : goal.returns
returns c = digits_are c.args.n c.requires
