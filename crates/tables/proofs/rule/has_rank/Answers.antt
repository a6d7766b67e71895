-- `rule::has_rank` meets its contract: the fold is whether some word has the rank. Assumes nothing.
use Rattle.meaning.specs.Hall.{ipv4}
use Rattle.meaning.specs.Rule.{rank}
use Rattle.tables.proofs.Rules.{folded_any}
use Rattle.std.proofs.Common.{fold, ◌||◌, false}
use Rattle.std.proofs.lemmas.Grind.{common_steps}
use native.Mathlib.Omega.{arith}
use Prim.Native.Nat.{ℕ}
use lib.Dec.{eqb}
use mathlib.Core.Path.{◌≡◌, ◌∙◌}
use Rattle.tables.proofs.rule.has_rank.Goals as goal

pub returns : goal.returns
returns c =
    let folded : c.fold.result ≡ fold (λ b x. b || eqb (rank ipv4 x) (rank ipv4 c.args.w)) false c.args.rule.now = grind (arith, common_steps) in
    folded ∙ folded_any (λ (x : ℕ). eqb (rank ipv4 x) (rank ipv4 c.args.w)) false c.args.rule.now
