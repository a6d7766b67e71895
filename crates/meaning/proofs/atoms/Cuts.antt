-- The place of an address among the boundaries: the last whose lower end is at most the address. Assumes nothing.
use mathlib.Core.Path.{◌≡◌, refl, ap}
use mathlib.Core.List.{List}
use mathlib.Core.Bool.{Bool, true, false}
use mathlib.Core.Logic.{◌⊎◌, inl, inr, ⊎_elim}
use Prim.Native.Nat.{ℕ, zero, suc, ◌+◌, ◌≤◌, ◌<◌}
use native.Mathlib.Nat.{eq-or-lt_of_le}
use native.Mathlib.Omega.{arith}
use lib.Dec.{leb}
use lib.ListN.{get_or}
use borrow.Author.Tests.{leb-true, leb-false}
use Rattle.meaning.specs.Tables.{Cuts, Holds, Boundary}
use Rattle.meaning.specs.Atoms.{place_of}
use Rattle.meaning.specs.Search.{pick}
use Rattle.meaning.proofs.base.Order.{le_or_lt}

-- at most n
pub place_le : (cut : List ℕ) (n a : ℕ) → place_of cut n a ≤ n
unfolding place_of
place_le cut zero a = omega arith
place_le cut (suc k) a = go (leb (get_or cut (suc k) 0) a) (place_le cut k a)
  where
    go : (t : Bool) → place_of cut k a ≤ k → pick t (suc k) (place_of cut k a) ≤ suc k
    go true ih = omega arith
    go false ih = omega arith

-- its lower end is at most a
pub place_from : (cut : List ℕ) (n a : ℕ) → get_or cut 0 0 ≤ a → get_or cut (place_of cut n a) 0 ≤ a
unfolding place_of
place_from cut zero a h = h
place_from cut (suc k) a h = go (leb (get_or cut (suc k) 0) a) refl (place_from cut k a h)
  where
    go : (t : Bool) → leb (get_or cut (suc k) 0) a ≡ t → get_or cut (place_of cut k a) 0 ≤ a → get_or cut (pick t (suc k) (place_of cut k a)) 0 ≤ a
    go true e ih = leb-true _ _ e
    go false e ih = ih

-- and no later place's is
pub place_max : (cut : List ℕ) (n a q : ℕ) → q ≤ n → get_or cut q 0 ≤ a → q ≤ place_of cut n a
unfolding place_of
place_max cut zero a q l h = l
place_max cut (suc k) a q l h = go (leb (get_or cut (suc k) 0) a) refl (λ l'. place_max cut k a q l' h)
  where
    go : (t : Bool) → leb (get_or cut (suc k) 0) a ≡ t → (q ≤ k → q ≤ place_of cut k a) → q ≤ pick t (suc k) (place_of cut k a)
    go true e ih = l
    go false e ih = ⊎_elim (λ (s : q ≡ suc k). omega (arith, ap (λ (i : ℕ). get_or cut i 0) s, leb-false (get_or cut (suc k) 0) a e)) (λ (s : q < suc k). ih (omega arith)) (eq-or-lt_of_le l)

-- and the next place's, where there is one, is above a
pub place_below : (cut : List ℕ) (n a : ℕ) → place_of cut n a < n → a < get_or cut (place_of cut n a + 1) 0
place_below cut n a h =
    ⊎_elim (λ (g : get_or cut (place_of cut n a + 1) 0 ≤ a). absurd (omega (arith, place_max cut n a (place_of cut n a + 1) (omega arith) g))) (λ g. g)
    (le_or_lt (get_or cut (place_of cut n a + 1) 0) a)

module _ {top : ℕ} {cut : List ℕ} {n : ℕ} (w : Cuts top cut n) where
  pub from_zero : (a : ℕ) → get_or cut 0 0 ≤ a
  from_zero a = omega (arith, w.first)

  pub cut_le : (i j : ℕ) → i ≤ j → j ≤ n → get_or cut i 0 ≤ get_or cut j 0
  cut_le i j h k = ⊎_elim (λ (e : i ≡ j). omega (arith, ap (λ (x : ℕ). get_or cut x 0) e)) (λ (g : i < j). omega (arith, w.up i j g k)) (eq-or-lt_of_le h)

  pub cut_top : (i : ℕ) → i ≤ n → get_or cut i 0 ≤ top
  cut_top i h = omega (arith, cut_le i n h (omega arith), w.last)

  -- a cut above a is past a's place
  pub place_lt : (a q : ℕ) → q ≤ n → a < get_or cut q 0 → place_of cut n a < q
  place_lt a q l h =
      ⊎_elim (λ (g : q ≤ place_of cut n a). absurd (go (eq-or-lt_of_le g))) (λ (g : place_of cut n a < q). g) (le_or_lt q (place_of cut n a))
    where
      go : (q ≡ place_of cut n a) ⊎ (q < place_of cut n a) → ⊥
      go (inl e) = omega (arith, ap (λ (i : ℕ). get_or cut i 0) e, place_from cut n a (from_zero a))
      go (inr g) = omega (arith, w.up q (place_of cut n a) g (place_le cut n a), place_from cut n a (from_zero a))

  -- an address below top lies in its place
  pub place_holds : (a : ℕ) → a < top → Holds cut n a (place_of cut n a)
  place_holds a h =
      let l = place_lt a n (omega arith) (omega (arith, w.last)) in
      record { within = l; from = place_from cut n a (from_zero a); below = place_below cut n a l }

  -- and in no other
  pub holds_place : {a p : ℕ} → Holds cut n a p → p ≡ place_of cut n a
  holds_place {a} {p} h =
      omega (arith, place_max cut n a p (omega (arith, h.within)) h.from, place_lt a (p + 1) (omega (arith, h.within)) h.below)

  -- the lower end of a place lies in it
  pub lower_holds : (p : ℕ) → p < n → Holds cut n (get_or cut p 0) p
  lower_holds p h = record { within = h; from = omega arith; below = w.up p (p + 1) (omega arith) (omega arith) }

  -- a boundary is at most the lower end of a's place p, or above a
  pub beside : (p a x : ℕ) → p < n → a < get_or cut (suc p) 0 → Boundary cut n x → (x ≤ get_or cut p 0) ⊎ (a < x)
  beside p a x h g b =
      ⊎_elim (λ (l : b.place ≤ p). inl (omega (arith, b.is, cut_le b.place p l (omega arith))))
      (λ (l : p < b.place). inr (omega (arith, b.is, cut_le (suc p) b.place l b.within))) (le_or_lt b.place p)
