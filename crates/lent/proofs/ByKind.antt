-- The same by the number of a record's kind among the nine: what it may be that has none of some kinds. Assumes nothing.
use mathlib.Core.Path.{◌≡◌, refl, sym, ap}
use mathlib.Core.List.{List}
use mathlib.Core.Bool.{true, false}
use mathlib.Core.Logic.{◌⊎◌, inl, inr}
use Prim.Native.Nat.{ℕ, ◌≤◌, ◌<◌}
use native.Mathlib.Omega.{arith}
use denote.Enum.Declared.{tag_of}
use Rattle.meaning.specs.contracts.Record.{the_type}
use Rattle.meaning.specs.declared.Record.{Record}
use Rattle.meaning.specs.declared.Record.TheVariants.{Hall, Link, Close, Insert, Remove, Loop, Fate, Reach, Tally}
use Rattle.meaning.specs.declared.hall.Phase.TheVariants.{Closed}
use Rattle.meaning.specs.Hall.{stage, State}
use Rattle.meaning.specs.Box.{left_for}
use Rattle.meaning.specs.Records.{got, SetUp, Update, Question, Sort, set_up, update, question, sort_of, phase_of, is_question}
use Rattle.meaning.proofs.records.Sorts.{before_close}

-- the place of a record's kind among the nine
abbrev kind_of : Record → ℕ
kind_of r = tag_of the_type r

-- the sort of a record, by that place: three set-up records, two updates, and the questions
data SortAt : ℕ → Sort → Type 0 where
  sets : (t : ℕ) (u : SetUp) → t ≤ 2 → SortAt t (set_up u)
  updates : (t : ℕ) (u : Update) → 2 < t → t ≤ 4 → SortAt t (update u)
  asks : (t : ℕ) (q : Question) → 4 < t → SortAt t (question q)

sort_at : (r : Record) → SortAt (kind_of r) (sort_of r)
unfolding sort_of
sort_at (Hall _) = sets 0 _ (omega arith)
sort_at (Link _ _ _) = sets 1 _ (omega arith)
sort_at Close = sets 2 _ (omega arith)
sort_at (Insert _ _ _ _ _) = updates 3 _ (omega arith) (omega arith)
sort_at (Remove _) = updates 4 _ (omega arith) (omega arith)
sort_at Loop = asks 5 _ (omega arith)
sort_at (Fate _ _) = asks 6 _ (omega arith)
sort_at (Reach _ _) = asks 7 _ (omega arith)
sort_at (Tally _) = asks 8 _ (omega arith)

from_three : (t : ℕ) → (t ≡ 3) ⊎ ((t ≡ 4) ⊎ ((t ≡ 5) ⊎ ((t ≡ 6) ⊎ ((t ≡ 7) ⊎ (t ≡ 8))))) → 3 ≤ t
from_three t (inl e) = omega (arith, e)
from_three t (inr (inl e)) = omega (arith, e)
from_three t (inr (inr (inl e))) = omega (arith, e)
from_three t (inr (inr (inr (inl e)))) = omega (arith, e)
from_three t (inr (inr (inr (inr (inl e))))) = omega (arith, e)
from_three t (inr (inr (inr (inr (inr e))))) = omega (arith, e)

-- no hall, link or close: it comes after the close
pub not_before : (r : Record) → (kind_of r ≡ 3) ⊎ ((kind_of r ≡ 4) ⊎ ((kind_of r ≡ 5) ⊎ ((kind_of r ≡ 6) ⊎ ((kind_of r ≡ 7) ⊎ (kind_of r ≡ 8))))) → phase_of (sort_of r) ≡ Closed
unfolding phase_of
not_before r k = go (sort_at r) (from_three (kind_of r) k)
  where
    go : {t : ℕ} {x : Sort} → SortAt t x → 3 ≤ t → phase_of x ≡ Closed
    go (sets t u h) g = absurd (omega arith)
    go (updates t u h l) g = refl
    go (asks t q h) g = refl

around : (t : ℕ) → (t ≡ 0) ⊎ ((t ≡ 1) ⊎ ((t ≡ 2) ⊎ ((t ≡ 5) ⊎ ((t ≡ 6) ⊎ ((t ≡ 7) ⊎ (t ≡ 8)))))) → 2 < t → t ≤ 4 → ⊥
around t (inl e) h g = omega (arith, e)
around t (inr (inl e)) h g = omega (arith, e)
around t (inr (inr (inl e))) h g = omega (arith, e)
around t (inr (inr (inr (inl e)))) h g = omega (arith, e)
around t (inr (inr (inr (inr (inl e))))) h g = omega (arith, e)
around t (inr (inr (inr (inr (inr (inl e)))))) h g = omega (arith, e)
around t (inr (inr (inr (inr (inr (inr e)))))) h g = omega (arith, e)

-- no insert or remove, and after the close: it is a question
pub is_asked : (r : Record) → (kind_of r ≡ 0) ⊎ ((kind_of r ≡ 1) ⊎ ((kind_of r ≡ 2) ⊎ ((kind_of r ≡ 5) ⊎ ((kind_of r ≡ 6) ⊎ ((kind_of r ≡ 7) ⊎ (kind_of r ≡ 8)))))) → phase_of (sort_of r) ≡ Closed → is_question (sort_of r) ≡ true
unfolding phase_of is_question
is_asked r k = go (sort_at r) (around (kind_of r) k)
  where
    go : {t : ℕ} {x : Sort} → SortAt t x → (2 < t → t ≤ 4 → ⊥) → phase_of x ≡ Closed → is_question x ≡ true
    go (sets t u h) g p = absurd (omega (arith, before_close u, ap stage p))
    go (updates t u h l) g p = absurd (g h l)
    go (asks t q h) g p = refl

to_four : (t : ℕ) → (t ≡ 0) ⊎ ((t ≡ 1) ⊎ ((t ≡ 2) ⊎ ((t ≡ 3) ⊎ (t ≡ 4)))) → t ≤ 4
to_four t (inl e) = omega (arith, e)
to_four t (inr (inl e)) = omega (arith, e)
to_four t (inr (inr (inl e))) = omega (arith, e)
to_four t (inr (inr (inr (inl e)))) = omega (arith, e)
to_four t (inr (inr (inr (inr e)))) = omega (arith, e)

-- no loop, fate, reach or tally: it is no question
pub no_question : (r : Record) → (kind_of r ≡ 0) ⊎ ((kind_of r ≡ 1) ⊎ ((kind_of r ≡ 2) ⊎ ((kind_of r ≡ 3) ⊎ (kind_of r ≡ 4)))) → is_question (sort_of r) ≡ false
unfolding is_question
no_question r k = go (sort_at r) (to_four (kind_of r) k)
  where
    go : {t : ℕ} {x : Sort} → SortAt t x → t ≤ 4 → is_question x ≡ false
    go (sets t u h) g = refl
    go (updates t u h l) g = refl
    go (asks t q h) g = absurd (omega arith)

-- what a record leaves, by what it was told to be
pub told_leaves : (m : State) (list : List ℕ) (n : ℕ) (r told : Record) → r ≡ told → left_for m list (got told n) ≡ left_for m list (got r n)
told_leaves m list n r told e = ap (λ (x : Record). left_for m list (got x n)) (sym e)
