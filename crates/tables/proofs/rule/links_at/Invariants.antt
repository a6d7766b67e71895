-- `rule::links_at` meets its contract. The loop's invariant: the links below l are marked where their source is v. Assumes nothing.
use Prim.Native.Nat.{ℕ, ◌/◌, ◌<◌}
use Rattle.tables.specs.Gathered.{mask_of}
use lib.Dec.{eqb}
use lib.ListN.{length, get_or}
use mathlib.Core.Path.{◌≡◌}
use Rattle.tables.proofs.rule.links_at.Given as goal

abbrev pub invariant-loop-l : goal.invariant-loop-l
invariant-loop-l l = (length l.here ≡ 64) × ((k : ℕ) → k < l.l → get_or l.here k 0 ≡ mask_of (eqb (get_or l.link k 0 / 1024) l.v))
