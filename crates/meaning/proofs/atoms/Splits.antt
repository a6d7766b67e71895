-- Where a number is made a boundary the tables are in order again: the boundaries rise, the numbers are apart, and what was a boundary is one.
-- Assumes nothing.
use mathlib.Core.Path.{◌≡◌, refl, sym, ap, ◌∙◌}
use mathlib.Core.List.{List}
use mathlib.Core.Bool.{Bool, true, false}
use mathlib.Core.Logic.{⊎_elim}
use Prim.Native.Nat.{ℕ, ◌+◌, ◌-◌, ◌≤◌, ◌<◌}
use native.Mathlib.Nat.{eq-or-lt_of_le}
use native.Mathlib.Omega.{arith}
use lib.ListN.{length, get_or, get_or-eq_default}
use borrow.Author.Tests.{eqb-true, eqb-false, eq-eqb}
use Rattle.meaning.specs.Tables.{Cuts, Numbers, Boundary}
use Rattle.meaning.specs.Atoms.{place_of, is_cut, insert_at, split_cut, split_number, split_count, with_cut}
use Rattle.meaning.specs.Search.{pick}
use Rattle.meaning.specs.Hall.{State}
use Rattle.meaning.proofs.base.InsertAt.{length_insert_at, insert_below, insert_same, insert_over, insert_next}
use Rattle.meaning.proofs.base.Order.{le_or_lt, Order, less, same, more, order}
use Rattle.meaning.proofs.atoms.Cuts.{place_le, place_from, place_max, place_below, from_zero, cut_le}

back : (n : ℕ) → n + 1 - 1 ≡ n
back n = omega arith

-- an insertion at p ≤ m moves the zeros from m on up one place
zeros : (p v m : ℕ) (l : List ℕ) → p ≤ m → ((q : ℕ) → m ≤ q → get_or l q 0 ≡ 0) → (i : ℕ) → m + 1 ≤ i → get_or (insert_at p v l) i 0 ≡ 0
zeros p v m l h z i k =
    ⊎_elim (λ (g : length l ≤ i). get_or-eq_default (insert_at p v l) 0 {n = i} (rw length_insert_at g))
    (λ (g : i < length l). insert_over p v i l (omega arith) g ∙ z (i - 1) (omega arith))
    (le_or_lt (length l) i)

-- b, strictly within place p, becomes the lower end of place p + 1
module _ (top : ℕ) (cut : List ℕ) (n b p : ℕ) (w : Cuts top cut n) (pn : p < n) (lo : get_or cut p 0 < b) (hi : b < get_or cut (p + 1) 0) (room : n < 512) where
  new : List ℕ
  new = insert_at (p + 1) b cut

  below : (i : ℕ) → i < p + 1 → get_or new i 0 ≡ get_or cut i 0
  unfolding new
  below i h = insert_below (p + 1) b i cut h

  here : get_or new (p + 1) 0 ≡ b
  unfolding new
  here = insert_same (p + 1) b cut (omega (arith, w.long))

  above : (i : ℕ) → p + 1 < i → i ≤ n + 1 → get_or new i 0 ≡ get_or cut (i - 1) 0
  unfolding new
  above i h k = insert_over (p + 1) b i cut h (omega (arith, w.long))

  ascends : (i j : ℕ) → i < j → j ≤ n + 1 → Order i (p + 1) → Order j (p + 1) → get_or new i 0 < get_or new j 0
  ascends i j h k (less a) (less z) = omega (arith, below i a, below j z, w.up i j h (omega arith))
  ascends i j h k (less a) (same z) = omega (arith, below i a, ap (λ (x : ℕ). get_or new x 0) z, here, cut_le w i p (omega arith) (omega arith))
  ascends i j h k (less a) (more z) = omega (arith, below i a, above j z k, w.up i (j - 1) (omega arith) (omega arith))
  ascends i j h k (same a) (less z) = absurd (omega arith)
  ascends i j h k (same a) (same z) = absurd (omega arith)
  ascends i j h k (same a) (more z) = omega (arith, ap (λ (x : ℕ). get_or new x 0) a, here, above j z k, cut_le w (p + 1) (j - 1) (omega arith) (omega arith))
  ascends i j h k (more a) (less z) = absurd (omega arith)
  ascends i j h k (more a) (same z) = absurd (omega arith)
  ascends i j h k (more a) (more z) = omega (arith, above i a (omega arith), above j z k, w.up (i - 1) (j - 1) (omega arith) (omega arith))

  pub made_cuts : Cuts top (insert_at (p + 1) b cut) (n + 1)
  unfolding new
  made_cuts = record {
    long = length_insert_at (p + 1) b cut ∙ w.long;
    room = omega arith;
    first = below 0 (omega arith) ∙ w.first;
    up = λ i j h k. ascends i j h k (order i (p + 1)) (order j (p + 1));
    last = above (n + 1) (omega arith) (omega arith) ∙ ap (λ (x : ℕ). get_or cut x 0) (back n) ∙ w.last;
    rest = λ i h. zeros (p + 1) b (n + 1) cut (omega arith) (λ q k. w.rest q (omega arith)) i (omega arith);
  }

-- b is no boundary: it lies strictly within its place
module _ {top : ℕ} {cut : List ℕ} {n b : ℕ} (w : Cuts top cut n) (bt : b ≤ top) (no : is_cut cut n b ≡ false) where
  pub misses : get_or cut (place_of cut n b) 0 ≡ b → ⊥
  unfolding is_cut
  misses = eqb-false _ _ no

  pub starts : get_or cut (place_of cut n b) 0 < b
  starts = ⊎_elim (λ e. absurd (misses e)) (λ g. g) (eq-or-lt_of_le (place_from cut n b (from_zero w b)))

  pub within : place_of cut n b < n
  within = ⊎_elim (λ (e : place_of cut n b ≡ n). absurd (omega (arith, starts, ap (λ (x : ℕ). get_or cut x 0) e, w.last))) (λ g. g) (eq-or-lt_of_le (place_le cut n b))

  pub ends : b < get_or cut (place_of cut n b + 1) 0
  ends = place_below cut n b within

-- the tables are well formed again
pub split_cuts : (top : ℕ) (cut : List ℕ) (n b : ℕ) → Cuts top cut n → b ≤ top → (is_cut cut n b ≡ false → n < 512) → Cuts top (split_cut cut n b) (split_count cut n b)
unfolding split_cut split_count
split_cuts top cut n b w bt room = go (is_cut cut n b) refl
  where
    go : (t : Bool) → is_cut cut n b ≡ t → Cuts top (pick t cut (insert_at (place_of cut n b + 1) b cut)) (pick t n (n + 1))
    go true e = w
    go false e = made_cuts top cut n b (place_of cut n b) w (within w bt e) (starts w bt e) (ends w bt e) (room e)

-- the next number, n, goes in at place p + 1
module _ (number : List ℕ) (n p : ℕ) (m : Numbers number n) (pn : p < n) (room : n < 512) where
  num_below : (i : ℕ) → i < p + 1 → get_or (insert_at (p + 1) n number) i 0 ≡ get_or number i 0
  num_below i h = insert_below (p + 1) n i number h

  num_here : get_or (insert_at (p + 1) n number) (p + 1) 0 ≡ n
  num_here = insert_same (p + 1) n number (omega (arith, m.long))

  num_above : (i : ℕ) → p + 1 < i → i ≤ n → get_or (insert_at (p + 1) n number) i 0 ≡ get_or number (i - 1) 0
  num_above i h k = insert_over (p + 1) n i number h (omega (arith, m.long))

  num_small : (i : ℕ) → i < n + 1 → Order i (p + 1) → get_or (insert_at (p + 1) n number) i 0 < n + 1
  num_small i h (less a) = omega (arith, num_below i a, m.small i (omega arith))
  num_small i h (same e) = omega (arith, ap (λ (x : ℕ). get_or (insert_at (p + 1) n number) x 0) e, num_here)
  num_small i h (more a) = omega (arith, num_above i a (omega arith), m.small (i - 1) (omega arith))

  num_apart : (i j : ℕ) → i < j → j < n + 1 → Order i (p + 1) → Order j (p + 1) → get_or (insert_at (p + 1) n number) i 0 ≡ get_or (insert_at (p + 1) n number) j 0 → ⊥
  num_apart i j h k (less a) (less z) e = m.apart i j h (omega arith) (sym (num_below i a) ∙ e ∙ num_below j z)
  num_apart i j h k (less a) (same z) e = omega (arith, num_below i a, ap (λ (x : ℕ). get_or (insert_at (p + 1) n number) x 0) z, num_here, m.small i (omega arith))
  num_apart i j h k (less a) (more z) e = m.apart i (j - 1) (omega arith) (omega arith) (sym (num_below i a) ∙ e ∙ num_above j z (omega arith))
  num_apart i j h k (same a) (less z) e = absurd (omega arith)
  num_apart i j h k (same a) (same z) e = absurd (omega arith)
  num_apart i j h k (same a) (more z) e = omega (arith, ap (λ (x : ℕ). get_or (insert_at (p + 1) n number) x 0) a, num_here, num_above j z (omega arith), m.small (j - 1) (omega arith))
  num_apart i j h k (more a) (less z) e = absurd (omega arith)
  num_apart i j h k (more a) (same z) e = absurd (omega arith)
  num_apart i j h k (more a) (more z) e = m.apart (i - 1) (j - 1) (omega arith) (omega arith) (sym (num_above i a (omega arith)) ∙ e ∙ num_above j z (omega arith))

  pub made_numbers : Numbers (insert_at (p + 1) n number) (n + 1)
  made_numbers = record {
    long = length_insert_at (p + 1) n number ∙ m.long;
    small = λ i h. num_small i h (order i (p + 1));
    apart = λ i j h k. num_apart i j h k (order i (p + 1)) (order j (p + 1));
    rest = zeros (p + 1) n n number (omega arith) m.rest;
  }

pub split_numbers : (top : ℕ) (cut number : List ℕ) (n b : ℕ) → Cuts top cut n → b ≤ top → (is_cut cut n b ≡ false → n < 512) → Numbers number n
    → Numbers (split_number cut number n n b) (split_count cut n b)
unfolding split_number split_count
split_numbers top cut number n b w bt room m = go (is_cut cut n b) refl
  where
    go : (t : Bool) → is_cut cut n b ≡ t → Numbers (pick t number (insert_at (place_of cut n b + 1) n number)) (pick t n (n + 1))
    go true e = m
    go false e = made_numbers number n (place_of cut n b) m (within w bt e) (room e)

-- ---- boundaries

module _ {top : ℕ} {cut : List ℕ} {n : ℕ} (w : Cuts top cut n) where
  -- what is one of the cuts is found
  pub boundary_is : (x : ℕ) → Boundary cut n x → is_cut cut n x ≡ true
  unfolding is_cut
  boundary_is x b =
      let e : b.place ≡ place_of cut n x = omega (arith, low, high) in
      eq-eqb _ _ (ap (λ (i : ℕ). get_or cut i 0) (sym e) ∙ b.is)
    where
      low : b.place ≤ place_of cut n x
      low = place_max cut n x b.place b.within (omega (arith, b.is))

      high : place_of cut n x ≤ b.place
      high = ⊎_elim (λ (g : place_of cut n x ≤ b.place). g)
          (λ (g : b.place < place_of cut n x). absurd (omega (arith, b.is, w.up b.place (place_of cut n x) g (place_le cut n x), place_from cut n x (from_zero w x))))
          (le_or_lt (place_of cut n x) b.place)

pub is_boundary_lem : (cut : List ℕ) (n x : ℕ) → is_cut cut n x ≡ true → Boundary cut n x
unfolding is_cut
is_boundary_lem cut n x e = record { place = place_of cut n x; within = place_le cut n x; is = eqb-true _ _ e }

module _ (top : ℕ) (cut : List ℕ) (n b : ℕ) (w : Cuts top cut n) (bt : b ≤ top) (room : is_cut cut n b ≡ false → n < 512) where
  -- b is a boundary then
  pub split_has : Boundary (split_cut cut n b) (split_count cut n b) b
  unfolding split_cut split_count
  split_has = go (is_cut cut n b) refl
    where
      go : (t : Bool) → is_cut cut n b ≡ t → Boundary (pick t cut (insert_at (place_of cut n b + 1) b cut)) (pick t n (n + 1)) b
      go true e = is_boundary_lem cut n b e
      go false e = record {
        place = place_of cut n b + 1;
        within = omega (arith, within w bt e);
        is = insert_same (place_of cut n b + 1) b cut (omega (arith, within w bt e, w.long, w.room));
      }

  -- and every boundary stays one
  pub split_keeps : (x : ℕ) → Boundary cut n x → Boundary (split_cut cut n b) (split_count cut n b) x
  unfolding split_cut split_count
  split_keeps x h = go (is_cut cut n b) refl
    where
      go : (t : Bool) → is_cut cut n b ≡ t → Boundary (pick t cut (insert_at (place_of cut n b + 1) b cut)) (pick t n (n + 1)) x
      go true e = h
      go false e =
          ⊎_elim
          (λ (g : h.place ≤ place_of cut n b). record { place = h.place; within = omega (arith, h.within); is = insert_below (place_of cut n b + 1) b h.place cut (omega arith) ∙ h.is })
          (λ (g : place_of cut n b < h.place). record { place = h.place + 1; within = omega (arith, h.within); is = insert_next (place_of cut n b + 1) b h.place cut (omega arith) (omega (arith, h.within, room e, w.long)) ∙ h.is })
          (le_or_lt h.place (place_of cut n b))

  pub split_count_lem : split_count cut n b ≡ n + pick (is_cut cut n b) 0 1
  unfolding split_count
  split_count_lem = go (is_cut cut n b)
    where
      go : (t : Bool) → pick t n (n + 1) ≡ n + pick t 0 1
      go true = omega arith
      go false = refl

-- where b is a boundary already, nothing changes
pub cut_old : (m : State) (b : ℕ) → is_cut m.atoms.cut m.atoms.count b ≡ true → with_cut m b ≡ m
unfolding with_cut split_cut split_number split_count
cut_old m b e = rw e
