-- `rule::upper_of` meets its contract. Assumes nothing.
use Prim.Native.Nat.{◌*◌, ◌/◌, ◌%◌, ◌^◌}
use Rattle.meaning.proofs.base.Bits.{mask, mask_le}
use Rattle.meaning.specs.Hall.{ipv4}
use Rattle.meaning.specs.Rule.{free_of, lower, upper}
use mathlib.Core.Path.{◌≡◌}
use native.Mathlib.Omega.{arith}
use Rattle.tables.proofs.rule.upper_of.Goals as goal

pub returns : goal.returns
unfolding lower upper free_of
returns c =
    let e : c.args.w / 2 ^ ipv4 / 64 % (2 * ipv4) ≡ c.args.w / 274877906944 % 64 = omega arith in
    (rw (mask, e), omega (arith, mask_le (c.args.w / 274877906944)))
