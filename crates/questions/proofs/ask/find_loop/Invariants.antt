-- `ask::find_loop` meets its contract. The outer loop's invariant: no loop is found, and at no place below p a node lies on a circle.
-- The inner loop's: nor does a node of `off`, of the atom at place p; and with each look `off` lacks fewer nodes. Assumes nothing.
use Prim.Native.Nat.{ℕ, ◌<◌}
use Rattle.lent.proofs.Questions.{links_at, NoCircle}
use Rattle.lent.specs.Nodes.{Off}
use Rattle.lent.specs.Owners.{next_in, end_in}
use Rattle.meaning.specs.declared.Answer.TheVariants.{NoLoop}
use Rattle.questions.proofs.Missing.{missing}
use mathlib.Core.Path.{◌≡◌}
use Rattle.questions.proofs.ask.find_loop.Given as goal

abbrev pub invariant-loop-v : goal.invariant-loop-v
invariant-loop-v l = (l.answer ≡ NoLoop) × Off (next_in l.hall.owner l.atom.0) (end_in l.hall.plan.link) l.nodes l.off

abbrev pub decreases-loop-v : goal.decreases-loop-v
decreases-loop-v l = missing l.nodes l.off

abbrev pub invariant-search : goal.invariant-search
invariant-search l = (l.answer ≡ NoLoop) × ((q : ℕ) → q < l.p → NoCircle (links_at l.hall.atoms.number l.hall.owner q) (end_in l.hall.plan.link) l.nodes l.nodes)
