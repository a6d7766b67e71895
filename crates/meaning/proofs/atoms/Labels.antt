-- The words of the labels are their members; where no rule is live every label and every owner is 0. Assumes nothing.
use mathlib.Core.Bool.{Bool, ◌&&◌, false, and-false}
use mathlib.Core.Path.{◌≡◌, refl, ap, ap₂, ◌∙◌}
use mathlib.Core.Option.{Option, none, some}
use Prim.Native.Nat.{ℕ, ◌+◌, ◌*◌, ◌/◌, ◌%◌, ◌^◌, ◌<◌}
use native.Mathlib.Nat.{mod-lt, zero-lt-suc}
use native.Mathlib.Omega.{arith}
use lib.ListN.{length, get_or}
use lib.Dec.{eqb}
use borrow.Author.Tests.{eqb-true, eq-eqb}
use Rattle.meaning.specs.Hall.{State, source_of, zeroes}
use Rattle.meaning.specs.Winner.{next_at, rule_at, eligible, winner, link_for}
use Rattle.meaning.specs.Tables.{Numbers}
use Rattle.meaning.specs.Labels.{on, names, is_on, labels_of}
use Rattle.meaning.specs.Rule.{live}
use Rattle.meaning.specs.Working.{owner_word, owner_at, place_with, owners_of}
use Rattle.meaning.proofs.base.Bits.{word_lt, word_bit, word_off}
use Rattle.meaning.proofs.base.Search.{tab_length, tab_at, any_one, and_both, any_off, table_off}
use Rattle.meaning.proofs.atoms.Numbers.{one_place}
use Rattle.meaning.proofs.rules.Ranks.{best_off}

-- ---- the labels

module _ (m : State) where
  pub labels_length : length (labels_of m) ≡ 512
  unfolding labels_of
  labels_length = tab_length 512 0 _

  pub labels_word : (i : ℕ) → i < 512 → get_or (labels_of m) i 0 < 2 ^ 64
  unfolding labels_of
  labels_word i h = rw (tab_at 512 0 _ i h) (word_lt 64 _)

  -- THE LAW: atom k is on link l, by the words, just where the winner at l's source names l
  pub labels_on : (l k : ℕ) → l < 64 → k < 512 → on (labels_of m) l k ≡ is_on m l k
  unfolding labels_of
  labels_on l k hl hk =
      let i = 8 * l + k / 64 in
      let a : (0 + i) / 8 ≡ l = omega arith in
      let b : 64 * ((0 + i) % 8) + k % 64 ≡ k = omega arith in
      rw (tab_at 512 0 _ i (omega arith)) (word_bit 64 _ (k % 64) (mod-lt k (zero-lt-suc 63)) ∙ ap₂ (is_on m) a b)

-- ---- what `is_on` says

-- the atom at place p is on link l exactly where the winner at l's source, for p's addresses, names l
pub on_place : (m : State) → Numbers m.atoms.number m.atoms.count → (l p : ℕ) → p < m.atoms.count → is_on m l (get_or m.atoms.number p 0) ≡ names (next_at m (get_or m.atoms.cut p 0) (source_of m l)) l
unfolding is_on
on_place m N l p h =
    any_one _ m.atoms.count p h (λ q g e. one_place N q p g h (eqb-true _ _ (and_both _ _ e).0))
    ∙ ap (λ (t : Bool). t && names (next_at m (get_or m.atoms.cut p 0) (source_of m l)) l) (eq-eqb (get_or m.atoms.number p 0) (get_or m.atoms.number p 0) refl)

module _ (m : State) (idle : (i : ℕ) → live (rule_at m i) ≡ false) where
  pub idle_winner : (v a : ℕ) → winner m v a ≡ 256
  unfolding winner eligible
  idle_winner v a = best_off _ _ 256 (λ i. rw (idle i))

  pub idle_next : (a v : ℕ) → next_at m a v ≡ none
  unfolding next_at link_for
  idle_next a v = rw (idle_winner v a)

  pub labels_idle : labels_of m ≡ zeroes 512
  unfolding labels_of is_on names
  labels_idle =
      table_off 512 _ (λ i. word_off 64 _ (λ j. any_off _ m.atoms.count (λ p h. rw idle_next (and-false (eqb (get_or m.atoms.number p 0) (64 * (i % 8) + j))))))

  pub owners_idle : owners_of m ≡ zeroes 8192
  unfolding owners_of owner_at owner_word
  owners_idle = table_off 8192 _ (λ i. go (i % 16) (place_with m (i / 16)))
    where
      go : (v : ℕ) (o : Option ℕ) → owner_at m v o ≡ 0
      go v none = refl
      go v (some p) = rw (idle_winner v (get_or m.atoms.cut p 0))
