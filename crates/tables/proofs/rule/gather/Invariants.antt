-- `rule::gather` meets its contract. The loop's invariant: the rules of the rounds passed, four in each, are gathered. Assumes nothing.
use Prim.Native.Nat.{◌*◌}
use Rattle.meaning.specs.Hall.{ipv4}
use Rattle.tables.specs.Gathered.{Marks, Gathering}
use lib.ListN.{length}
use mathlib.Core.Path.{◌≡◌}
use Rattle.tables.proofs.rule.gather.Given as goal

abbrev pub invariant-loop-round : goal.invariant-loop-round
invariant-loop-round l = (length l.among ≡ 256) × Marks l.hall.plan.link l.v l.here × Gathering ipv4 l.hall.plan.link l.hall.rule l.v l.w l.among l.count (4 * l.round)
