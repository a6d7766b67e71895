-- `lead::carries` meets its contract: words that are 0 together have no bit. Assumes nothing.
use Prim.Native.Nat.{ℕ, zero, suc, ◌+◌, ◌-◌, ◌*◌, ◌/◌, ◌%◌, ◌<◌}
use Rattle.meaning.proofs.base.Bits.{or_none, zero_bits}
use Rattle.meaning.specs.Labels.{bit}
use Rattle.std.proofs.Common.{rules, drop, slice_range}
use Rattle.std.proofs.lemmas.List.{get_or-take, get_or-drop}
use Rattle.std.specs.List.{fold}
use borrow.Author.Tests.{eqb-true, not-false}
use lib.Bits.{bit_or}
use lib.Dec.{eqb}
use lib.ListN.{get_or}
use mathlib.Core.List.{List, [], ◌∷◌}
use mathlib.Core.Path.{◌≡◌, refl, sym, ap, ◌∙◌}
use native.Mathlib.Omega.{arith}
use Rattle.questions.proofs.lead.carries.Goals as goal

-- words that are 0 together are 0 each
each_none : (xs : List ℕ) (a : ℕ) → fold bit_or a xs ≡ 0 → (a ≡ 0) × ((j : ℕ) → get_or xs j 0 ≡ 0)
each_none [] a e = (e, λ j. refl)
each_none (x ∷ xs) a e =
    let r = each_none xs (bit_or a x) e in
    let h = or_none a x r.0 in
    (h.0, go h.1 r.1)
  where
    go : x ≡ 0 → ((j : ℕ) → get_or xs j 0 ≡ 0) → (j : ℕ) → get_or (x ∷ xs) j 0 ≡ 0
    go e f zero = e
    go e f (suc j) = f j

in_slice : (xs : List ℕ) (i j : ℕ) → j < 8 → get_or (slice_range xs i (i + 8)) j 0 ≡ get_or xs (i + j) 0
in_slice xs i j h = get_or-take (i + 8 - i) (drop i xs) j 0 (omega arith) ∙ get_or-drop i xs j 0

pub returns : goal.returns
returns c =
    let l = c.args.l in
    let label = c.args.label.now in
    let all : c.fold.result ≡ fold bit_or 0 (slice_range label (8 * l) (8 * l + 8)) = search rules in
    λ f. record {
      none_on = λ k h.
          let none = (each_none _ 0 (sym all ∙ eqb-true _ _ (not-false _ f))).1 (k / 64) in
          let word : get_or label (8 * l + k / 64) 0 ≡ 0 = sym (in_slice label (8 * l) (k / 64) (omega arith)) ∙ none in
          ap (λ (x : ℕ). eqb (bit x (k % 64)) 1) word ∙ zero_bits (k % 64);
    }
