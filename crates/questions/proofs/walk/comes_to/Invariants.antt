-- `walk::comes_to` meets its contract. The loop's invariant: the packet stands at `here` after i moves from v, and stood at other
-- nodes than w before. Assumes nothing.
use Prim.Native.Nat.{◌<◌}
use Rattle.lent.proofs.Walking.{NotYet}
use Rattle.lent.specs.Owners.{next_in, end_in}
use Rattle.meaning.specs.Walk.{at, after}
use mathlib.Core.Path.{◌≡◌}
use Rattle.questions.proofs.walk.comes_to.Given as goal

abbrev pub invariant-loop : goal.invariant-loop
invariant-loop l = (l.here < 16) × (after (next_in l.hall.owner l.atom.0) (end_in l.hall.plan.link) l.counter (at l.v) ≡ at l.here) × NotYet (next_in l.hall.owner l.atom.0) (end_in l.hall.plan.link) l.v l.w l.counter
