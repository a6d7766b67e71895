-- An entry put in at a place, where those from there on move up one place, over an entry that goes out. Assumes nothing.
use Prim.Native.Nat.{ℕ, ◌+◌, ◌-◌, ◌≤◌, ◌<◌}
use Rattle.meaning.proofs.base.InsertAt.{length_insert_at, insert_below, insert_same, insert_next}
use Rattle.meaning.proofs.base.Order.{le_or_lt}
use Rattle.meaning.specs.Atoms.{insert_at}
use Rattle.std.proofs.Common.{sym, subst, ap, ◌∙◌, ◌⊎◌, inl, inr}
use Rattle.std.proofs.lemmas.List.{ext_get_or}
use Rattle.std.proofs.lemmas.List.Edits.{length-insert, length-remove, get_or-insert_below, get_or-insert_at, get_or-insert_above, get_or-remove_below, get_or-remove_above}
use Rattle.std.specs.List.{insert, remove, CopiedTo, SameBelow, SameFrom}
use lib.ListN.{length, length-set, get_or, set}
use lib.Seq.{get_or-set_same, get_or-set_other}
use mathlib.Core.List.{List}
use mathlib.Core.Path.{◌≡◌}
use native.Mathlib.Decide.{ℕ_discrete}
use native.Mathlib.Omega.{arith}

module _ {X : Type 0} (xs : List X) (n p : ℕ) (x d : X) (h : p ≤ n) (l : n < length xs) where
  rest : p ≤ length (remove xs n)
  rest = omega (arith, length-remove xs n l)

  -- what stands above p: the entry below it, and past n what stood there
  above : (i : ℕ) → p ≤ i → (i < n → get_or (insert (remove xs n) p x) (i + 1) d ≡ get_or xs i d) × (n ≤ i → get_or (insert (remove xs n) p x) (i + 1) d ≡ get_or xs (i + 1) d)
  above i g = (
    λ k. get_or-insert_above (remove xs n) p x d i g rest ∙ get_or-remove_below xs n d i k l,
    λ k. get_or-insert_above (remove xs n) p x d i g rest ∙ get_or-remove_above xs n d i k l,
  )

  -- the only list that has the same below p, x at p, one place up what stood from p to below n, and the same past n
  only : (ys : List X) → length ys ≡ length xs
      → ((i : ℕ) → i < p → get_or ys i d ≡ get_or xs i d) → get_or ys p d ≡ x
      → ((i : ℕ) → p ≤ i → i < n → get_or ys (i + 1) d ≡ get_or xs i d) → ((i : ℕ) → n ≤ i → i + 1 < length xs → get_or ys (i + 1) d ≡ get_or xs (i + 1) d)
      → ys ≡ insert (remove xs n) p x
  only ys e below at moved past =
      ext_get_or d ys (insert (remove xs n) p x) (omega (arith, length-insert (remove xs n) p x rest, length-remove xs n l))
      (λ i k. go i k (le_or_lt p i))
    where
      up : (i : ℕ) → p ≤ i → i + 1 < length xs → (n ≤ i) ⊎ (i < n) → get_or ys (i + 1) d ≡ get_or (insert (remove xs n) p x) (i + 1) d
      up i g k (inl o) = past i o k ∙ sym ((above i g).1 o)
      up i g k (inr o) = moved i g o ∙ sym ((above i g).0 o)

      go : (i : ℕ) → i < length ys → (p ≤ i) ⊎ (i < p) → get_or ys i d ≡ get_or (insert (remove xs n) p x) i d
      go i k (inr g) = below i g ∙ sym (get_or-insert_below (remove xs n) p x d i g rest ∙ get_or-remove_below xs n d i (omega arith) l)
      go i k (inl g) = at_or (ℕ_discrete i p)
        where
          at_or : Dec (i ≡ p) → get_or ys i d ≡ get_or (insert (remove xs n) p x) i d
          at_or (yes q) = rw q (at ∙ sym (get_or-insert_at (remove xs n) p x d rest))
          at_or (no q) = let j : i ≡ (i - 1) + 1 = omega arith in
              subst (λ (m : ℕ). get_or ys m d ≡ get_or (insert (remove xs n) p x) m d) (sym j) (up (i - 1) (omega arith) (omega arith) (le_or_lt n (i - 1)))

-- a copy one place up, and a store
pub moved_up : {X : Type 0} (xs ys : List X) (n p : ℕ) (x : X) → p ≤ n → n < length xs → length ys ≡ length xs
    → CopiedTo xs ys p (p + 1) (n - p) → SameBelow xs ys (p + 1) → SameFrom xs ys (p + 1 + (n - p)) → set ys p x ≡ insert (remove xs n) p x
moved_up xs ys n p x h l e moved below past =
    only xs n p x x h l (set ys p x) (length-set ys p x ∙ e)
    (λ i g. get_or-set_other ys p i x x (λ q. omega arith) ∙ below i x (omega arith))
    (get_or-set_same ys p x x (omega arith))
    (λ i g k. get_or-set_other ys p (i + 1) x x (λ q. omega arith) ∙ moved (i + 1) x (omega arith) (omega arith) ∙ ap (λ (m : ℕ). get_or xs m x) (omega arith))
    (λ i g k. get_or-set_other ys p (i + 1) x x (λ q. omega arith) ∙ past (i + 1) x (omega arith))

-- where the entries from n on are zeros, none is lost
pub none_lost : (xs : List ℕ) (n p x : ℕ) → p ≤ n → n < length xs → ((q : ℕ) → n ≤ q → get_or xs q 0 ≡ 0) → insert_at p x xs ≡ insert (remove xs n) p x
none_lost xs n p x h l zero =
    only xs n p x 0 h l (insert_at p x xs) (length_insert_at p x xs)
    (λ i g. insert_below p x i xs g)
    (insert_same p x xs (omega arith))
    (λ i g k. insert_next p x i xs g (omega arith))
    (λ i g k. insert_next p x i xs (omega arith) k ∙ zero i g ∙ sym (zero (i + 1) (omega arith)))
