-- `hall::link::pack` meets its contract. Assumes nothing.
use Rattle.std.proofs.Common.{arith}
use Rattle.meaning.specs.Hall.{link_word}
use Rattle.hall.proofs.link.pack.Goals as goal

pub overflow_add-result : goal.overflow_add-result
overflow_add-result c = omega (arith, c.from.ensures, c.from-2.ensures.1)

pub returns : goal.returns
unfolding link_word
returns c = omega (arith, c.from.ensures, c.from-2.ensures.0)
