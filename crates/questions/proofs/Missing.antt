-- How many nodes a set lacks: with each node that joins it lacks fewer, so it grows no more often than there are nodes. Assumes nothing.
use Prim.Native.Nat.{ℕ, zero, suc, ◌+◌, ◌≤◌, ◌<◌}
use Rattle.lent.specs.Nodes.{among}
use Rattle.meaning.proofs.base.Bits.{bit_lt, digit_same}
use Rattle.meaning.proofs.base.Order.{le_or_lt}
use Rattle.meaning.specs.Search.{pick, count_below}
use Rattle.questions.specs.Moves.{Included}
use Rattle.std.proofs.lemmas.Nat.Bits.{bit_at_above, same_from_bits}
use borrow.Author.Tests.{eqb-true}
use mathlib.Core.Bool.{Bool, true, false, not, true≢false}
use mathlib.Core.Logic.{⊎_elim}
use mathlib.Core.Path.{◌≡◌, refl, sym}
use native.Mathlib.Decide.{ℕ_discrete}
use native.Mathlib.Omega.{arith}

-- how many of n nodes are none of a set: n at most, by `count_le`
abbrev pub missing : ℕ → ℕ → ℕ
missing n nodes = count_below n (λ v. not (among nodes v))

-- sets that have all of each other are the same
same : (nodes more : ℕ) → Included nodes more → Included more nodes → nodes ≡ more
same nodes more f g = same_from_bits nodes more (λ v. digit_same _ _ (bit_lt nodes v) (bit_lt more v) (alike (among nodes v) (among more v) (f v) (g v)))
  where
    alike : (s t : Bool) → (s ≡ true → t ≡ true) → (t ≡ true → s ≡ true) → s ≡ t
    alike true t f g = sym (f refl)
    alike false true f g = g refl
    alike false false f g = refl

-- one node more: where the second set lacks it, the first does
and_next : (few many : ℕ) → few ≤ many → (s t : Bool) → (s ≡ true → t ≡ true) → few + pick (not t) 1 0 ≤ many + pick (not s) 1 0
and_next few many l s true f = omega arith
and_next few many l false false f = omega arith
and_next few many l true false f = absurd (true≢false (sym (f refl)))

module _ (nodes more : ℕ) (all : Included nodes more) where
  -- a set that has all of another lacks no more of the n
  not_more : (n : ℕ) → missing n more ≤ missing n nodes
  unfolding count_below
  not_more zero = omega arith
  not_more (suc n) = and_next (missing n more) (missing n nodes) (not_more n) (among nodes n) (among more n) (all n)

  -- a set that has all of another, and node v of n besides, lacks fewer of the n
  pub fewer : (n v : ℕ) → v < n → among nodes v ≡ false → among more v ≡ true → missing n more < missing n nodes
  unfolding count_below
  fewer zero v l e f = absurd (omega arith)
  fewer (suc n) v l e f = go (λ k. fewer n v k e f) (ℕ_discrete v n)
    where
      go : (v < n → missing n more < missing n nodes) → Dec (v ≡ n) → missing (suc n) more < missing (suc n) nodes
      go before (yes q) = rw (rw q at e, rw q at f) (omega (arith, not_more n))
      go before (no d) = omega (arith, and_next (suc (missing n more)) (missing n nodes) (before (omega arith)) (among nodes n) (among more n) (all n))

  -- a set of the 16 nodes that has all of another, and is not the same, lacks fewer of them
  pub fewer_grown : more < 65536 → (more ≡ nodes → ⊥) → missing 16 more < missing 16 nodes
  fewer_grown small differ = go (ℕ_discrete (missing 16 more) (missing 16 nodes))
    where
      node : (v : ℕ) → among more v ≡ true → v < 16
      node v e = ⊎_elim (λ (l : 16 ≤ v). absurd (omega (arith, bit_at_above more 16 v small l, eqb-true _ 1 e))) (λ (l : v < 16). l) (le_or_lt 16 v)

      back : missing 16 more ≡ missing 16 nodes → (v : ℕ) → among more v ≡ true → (t : Bool) → among nodes v ≡ t → t ≡ true
      back q v f true e = refl
      back q v f false e = absurd (omega (arith, fewer 16 v (node v f) e f, q))

      go : Dec (missing 16 more ≡ missing 16 nodes) → missing 16 more < missing 16 nodes
      go (yes q) = absurd (differ (sym (same nodes more all (λ v f. back q v f (among nodes v) refl))))
      go (no n) = omega (arith, not_more 16, n)
