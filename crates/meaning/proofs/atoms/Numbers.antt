-- The atoms' numbers are 0 .. n - 1, each at one place: every number has its place, and the search for it finds that. Assumes nothing.
use mathlib.Core.Path.{◌≡◌, refl, sym, ap, ◌∙◌}
use mathlib.Core.Bool.{Bool, false, ◌&&◌}
use mathlib.Core.Logic.{◌⊎◌, inl, inr, ⊎_elim}
use mathlib.Core.List.{List}
use mathlib.Core.Option.{none, some}
use Prim.Native.Nat.{ℕ, ◌≤◌, ◌<◌}
use native.Mathlib.Nat.{eq-or-lt_of_le}
use native.Mathlib.Omega.{arith}
use lib.Dec.{ltb}
use lib.ListN.{get_or}
use borrow.Author.Tests.{lt-ltb, le-ltb, eq-eqb, ne_eqb}
use Rattle.meaning.specs.Search.{pick}
use Rattle.meaning.specs.Hall.{State, source_of}
use Rattle.meaning.specs.Winner.{next_at}
use Rattle.meaning.specs.Labels.{names, is_on}
use Rattle.meaning.specs.Working.{place_with}
use Rattle.meaning.specs.Tables.{Numbers}
use Rattle.meaning.proofs.base.Pigeon.{pigeon}
use Rattle.meaning.proofs.base.Search.{any_off, lowest_off, lowest_first}
use Rattle.meaning.proofs.base.Order.{Order, less, same, more, order}

-- the numbers of n places, and then k: of these n + 1 numbers below n two are equal, and only k can be the second
module _ {number : List ℕ} {n : ℕ} (N : Numbers number n) (k : ℕ) (hk : k < n) where
  followed : ℕ → ℕ
  followed i = pick (ltb i n) (get_or number i 0) k

  inside : (i : ℕ) → i < n → followed i ≡ get_or number i 0
  unfolding followed
  inside i h = rw (lt-ltb i n h)

  small : (i : ℕ) → i ≤ n → followed i < n
  unfolding followed
  small i l = ⊎_elim (λ (e : i ≡ n). rw (le-ltb i n (omega arith)) hk) (λ (h : i < n). rw (lt-ltb i n h) (N.small i h)) (eq-or-lt_of_le l)

  -- THE LAW: every number is some place's
  pub has_place : (p : ℕ) × (p < n) × (get_or number p 0 ≡ k)
  unfolding followed
  has_place = let t = pigeon n followed small in go t.i t.j t.less (eq-or-lt_of_le t.within) (sym (inside t.i (omega arith)) ∙ t.same)
    where
      go : (i j : ℕ) → i < j → (j ≡ n) ⊎ (j < n) → get_or number i 0 ≡ followed j → (p : ℕ) × (p < n) × (get_or number p 0 ≡ k)
      go i j l (inl e) s = (i, omega arith, s ∙ rw (le-ltb j n (omega arith)))
      go i j l (inr h) s = absurd (N.apart i j l h (s ∙ inside j h))

-- ---- the place of an atom

module _ (m : State) (N : Numbers m.atoms.number m.atoms.count) where
  pub place_with_lem : (p : ℕ) → p < m.atoms.count → place_with m (get_or m.atoms.number p 0) ≡ some p
  unfolding place_with
  place_with_lem p h =
      lowest_first _ m.atoms.count p h (eq-eqb (get_or m.atoms.number p 0) (get_or m.atoms.number p 0) refl)
      (λ i l. ne_eqb (get_or m.atoms.number i 0) (get_or m.atoms.number p 0) (N.apart i p l h))

  pub place_without : (k : ℕ) → m.atoms.count ≤ k → place_with m k ≡ none
  unfolding place_with
  place_without k h = lowest_off _ m.atoms.count (λ i l. ne_eqb (get_or m.atoms.number i 0) k (λ e. omega (arith, N.small i l)))

  -- and it is on no link
  pub on_without : (l k : ℕ) → m.atoms.count ≤ k → is_on m l k ≡ false
  unfolding is_on
  on_without l k h = any_off _ m.atoms.count (λ p g.
      ap (λ (t : Bool). t && names (next_at m (get_or m.atoms.cut p 0) (source_of m l)) l) (ne_eqb (get_or m.atoms.number p 0) k (λ e. omega (arith, N.small p g))))

-- a number is one place's
pub one_place : {number : List ℕ} {n : ℕ} → Numbers number n → (p q : ℕ) → p < n → q < n → get_or number p 0 ≡ get_or number q 0 → p ≡ q
one_place N p q hp hq e = go (order p q)
  where
    go : Order p q → p ≡ q
    go (less h) = absurd (N.apart p q h hq e)
    go (same h) = h
    go (more h) = absurd (N.apart q p h hp (sym e))
