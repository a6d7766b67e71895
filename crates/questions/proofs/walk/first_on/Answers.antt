-- `walk::first_on` meets its contract: the ones at the end of a set are its nodes, and the one above them is not. Assumes nothing.
use Prim.Native.Nat.{ℕ, ◌+◌, ◌<◌}
use Rattle.lent.proofs.Walking.{in_all}
use Rattle.lent.specs.Nodes.{among}
use Rattle.meaning.specs.Labels.{bit}
use Rattle.questions.specs.Moves.{Below, IsFirstOn}
use Rattle.std.proofs.lemmas.Nat.Bits.{bit_at-trailing_ones}
use Rattle.std.specs.Int.{trailing_ones}
use Rattle.std.specs.Bool.{then_some}
use borrow.Author.Tests.{eq-eqb, ne_eqb, ltb-true, ltb-false}
use lib.Dec.{ltb}
use lib.Count.{count_trailing_zeros}
use mathlib.Core.Bool.{Bool, true, false}
use mathlib.Core.Path.{◌≡◌, refl, sym}
use mir.Syntax.{w16}
use native.Mathlib.Decide.{dec_lt}
use native.Mathlib.Omega.{arith}
use Rattle.questions.proofs.walk.first_on.Goals as goal

lowest : (off : ℕ) → off < 65536 → Below off (trailing_ones w16 off) × (among off (trailing_ones w16 off) ≡ false)
unfolding count_trailing_zeros
lowest off h = go (dec_lt (off + 1) 65536)
  where
    go : Dec (off + 1 < 65536) → Below off (trailing_ones w16 off) × (among off (trailing_ones w16 off) ≡ false)
    go (yes l) =
        let r = bit_at-trailing_ones w16 off l in
        (λ x k. eq-eqb (bit off x) 1 (r.2 x k), ne_eqb (bit off (trailing_ones w16 off)) 1 (λ e. omega (arith, r.1, e)))
    go (no n) =
        let e : off ≡ 65535 = omega arith in
        rw e (in_all, refl)

found : (b : Bool) (off v n : ℕ) → b ≡ ltb v n → Below off v × (among off v ≡ false) → IsFirstOn off n (then_some b v)
unfolding IsFirstOn
found true off v n e r = (ltb-true v n (sym e), r.0, r.1)
found false off v n e r = λ x l. r.0 x (omega (arith, ltb-false v n (sym e)))

pub returns : goal.returns
returns c =
    let h : c.args.off < 65536 = omega arith in
    rw c.then_some.ensures (found _ _ _ _ refl (rw c.trailing_ones-v.ensures (lowest c.args.off h)))
