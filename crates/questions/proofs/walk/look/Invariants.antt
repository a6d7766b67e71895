-- `walk::look` meets its contract. The loop's invariant: the packet stands at `here` after i moves from v, none of them led back to v, and
-- each node passed leads to `here`; the nodes of `off` are among them, and v is or is `here`. Assumes nothing.
use Prim.Native.Nat.{◌<◌}
use Rattle.lent.proofs.Walking.{NotBack, Trail}
use Rattle.lent.specs.Nodes.{among}
use Rattle.lent.specs.Owners.{next_in, end_in}
use Rattle.meaning.specs.Walk.{at, after}
use Rattle.questions.specs.Moves.{Included}
use mathlib.Core.Bool.{true}
use mathlib.Core.Logic.{◌⊎◌}
use mathlib.Core.Path.{◌≡◌}
use Rattle.questions.proofs.walk.look.Given as goal

abbrev pub invariant-loop : goal.invariant-loop
invariant-loop l = (l.here < 16) × (after (next_in l.hall.owner l.atom.0) (end_in l.hall.plan.link) l.counter (at l.v) ≡ at l.here) × NotBack (next_in l.hall.owner l.atom.0) (end_in l.hall.plan.link) l.v l.counter × Trail (next_in l.hall.owner l.atom.0) (end_in l.hall.plan.link) l.hall.plan.nodes l.passed l.here × ((among l.passed l.v ≡ true) ⊎ (l.here ≡ l.v)) × Included l.off l.passed
