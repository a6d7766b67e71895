-- Check 13 counts what the document counts: the inner boundaries that would exist. Assumes nothing.
use mathlib.Core.Path.{◌≡◌, refl, sym, ap, ◌∙◌}
use mathlib.Core.Logic.{⊎_elim}
use mathlib.Core.Bool.{Bool, true, false, not, ◌&&◌, ◌||◌, true≢false, or-false}
use mathlib.Core.List.{List}
use Prim.Native.Nat.{ℕ, zero, suc, ◌+◌, ◌-◌, ◌≤◌, ◌<◌}
use native.Mathlib.Nat.{add-zero, add-suc}
use native.Mathlib.Omega.{arith}
use lib.Dec.{ltb, eqb}
use lib.Pow.{pow_pos}
use lib.ListN.{get_or}
use borrow.Author.Tests.{eq-eqb, ne_eqb, lt-ltb, le-ltb}
use Rattle.meaning.specs.Search.{pick, count_below}
use Rattle.meaning.specs.Hall.{top, State}
use Rattle.meaning.specs.Rule.{lower, upper, span}
use Rattle.meaning.specs.Atoms.{is_cut, is_boundary}
use Rattle.meaning.specs.Step.{added}
use Rattle.meaning.specs.Tables.{Cuts}
use Rattle.meaning.proofs.base.Order.{le_or_lt, Order, less, same, more, order}
use Rattle.meaning.proofs.atoms.Cuts.{beside}
use Rattle.meaning.proofs.atoms.Splits.{is_boundary_lem, boundary_is}
use Rattle.meaning.proofs.base.Search.{count_same, count_front}
use Rattle.meaning.proofs.demands.Demands.{inner_with}

-- ---- counting

-- one number more
count_or : (F : ℕ → Bool) (x t : ℕ) → count_below t (λ b. F b || eqb b x) ≡ count_below t F + pick (ltb x t && not (F x)) 1 0
unfolding count_below
count_or F x zero = rw (le-ltb x 0 (omega arith))
count_or F x (suc t) = go (order t x) (count_or F x t)
  where
    at : (f : Bool) (c d : ℕ) → c ≡ d → c + pick (f || true) 1 0 ≡ d + pick f 1 0 + pick (not f) 1 0
    at true c d e = omega arith
    at false c d e = omega arith

    off : (f : Bool) (c d z : ℕ) → c ≡ d + z → c + pick (f || false) 1 0 ≡ d + pick f 1 0 + z
    off true c d z e = omega arith
    off false c d z e = omega arith

    go : Order t x → count_below t (λ b. F b || eqb b x) ≡ count_below t F + pick (ltb x t && not (F x)) 1 0
        → count_below t (λ b. F b || eqb b x) + pick (F t || eqb t x) 1 0 ≡ count_below t F + pick (F t) 1 0 + pick (ltb x (suc t) && not (F x)) 1 0
    go (less g) ih = rw (ne_eqb t x (λ e. omega arith), le-ltb x (suc t) g) (off (F t) _ _ 0 (ih ∙ rw (le-ltb x t (omega arith))))
    go (same e) ih = rw (← e, eq-eqb t t refl, lt-ltb t (suc t) (omega arith)) (at (F t) _ _ ((rw (← e) at ih) ∙ rw (le-ltb t t (omega arith)) (add-zero (count_below t F))))
    go (more g) ih = rw (ne_eqb t x (λ e. omega arith), lt-ltb x (suc t) (omega arith)) (off (F t) _ _ _ (ih ∙ rw (lt-ltb x t g)))

-- from s on, only s has the property
count_one : (F : ℕ → Bool) (s w : ℕ) → F s ≡ true → ((b : ℕ) → s < b → b < s + suc w → F b ≡ false) → count_below (s + suc w) F ≡ count_below s F + 1
unfolding count_below
count_one F s zero e h = rw (add-suc s 0, add-zero s, e)
count_one F s (suc w) e h = rw (add-suc s (suc w)) (rw (h (s + suc w) (omega arith) (omega arith)) (ap (λ (x : ℕ). x + 0) (count_one F s w e (λ b g k. h b g (omega arith))) ∙ add-zero _))

-- all but 0
count_inner : (F : ℕ → Bool) (t : ℕ) → count_below (suc t) (λ b. ltb 0 b && F b) + pick (F 0) 1 0 ≡ count_below (suc t) F
count_inner F t = rw (count_front, count_front F t) (omega (arith, count_same (λ j. ltb 0 (suc j) && F (suc j)) (λ j. F (suc j)) t (λ j h. rw (lt-ltb 0 (suc j) (omega arith)))))

-- ---- boundaries

module _ {top : ℕ} {cut : List ℕ} {n : ℕ} (W : Cuts top cut n) where
  -- between two neighbouring boundaries there is none
  between : (p b : ℕ) → p < n → get_or cut p 0 < b → b < get_or cut (suc p) 0 → is_cut cut n b ≡ false
  between p b h g k = go (is_cut cut n b) refl
    where
      go : (t : Bool) → is_cut cut n b ≡ t → t ≡ false
      go false e = refl
      go true e =
          ⊎_elim (λ (l : b ≤ get_or cut p 0). absurd (omega arith)) (λ (l : b < b). absurd (omega arith)) (beside W p b b h k (is_boundary_lem cut n b e))

  is_one : (p : ℕ) → p ≤ n → is_cut cut n (get_or cut p 0) ≡ true
  is_one p h = boundary_is W (get_or cut p 0) (record { place = p; within = h; is = refl })

  -- below boundary p there are p
  count_to : (p : ℕ) → p ≤ n → count_below (get_or cut p 0) (is_cut cut n) ≡ p
  unfolding count_below
  count_to zero h = rw W.first
  count_to (suc p) h =
      let s = get_or cut p 0 in
      let d = get_or cut (suc p) 0 - s - 1 in
      let e : get_or cut (suc p) 0 ≡ s + suc d = omega (arith, W.up p (suc p) (omega arith) h) in
      ap (λ (t : ℕ). count_below t (is_cut cut n)) e ∙ count_one (is_cut cut n) s d (is_one p (omega arith)) (λ b g k. between p b h g (omega arith))
      ∙ omega (arith, count_to p (omega arith))

  pub count_all : count_below top (is_cut cut n) ≡ n
  count_all = ap (λ (t : ℕ). count_below t (is_cut cut n)) (sym W.last) ∙ count_to n (omega arith)

-- ---- check 13

-- the two ends p and q of a rule, of which q may be the end of the range
module _ {t : ℕ} {cut : List ℕ} {n : ℕ} (W : Cuts (suc t) cut n) (p q : ℕ) (less : p < q) (within : q ≤ suc t) where
  abbrev C : ℕ → Bool
  C = is_cut cut n

  top_one : C (suc t) ≡ true
  top_one = ap C (sym W.last) ∙ is_one W n (omega arith)

  zero_one : C 0 ≡ true
  zero_one = ap C (sym W.first) ∙ is_one W 0 (omega arith)

  -- an end counts where it is no boundary yet; the end of the range is one
  counts : (x : ℕ) → x ≤ suc t → (f : Bool) → C x ≡ f → ◌≡◌ {A = ℕ} (pick (ltb x (suc t) && not f) 1 0) (pick f 0 1)
  counts x h true e = go (ltb x (suc t))
    where
      go : (g : Bool) → ◌≡◌ {A = ℕ} (pick (g && false) 1 0) 0
      go true = refl
      go false = refl
  counts x h false e = rw (lt-ltb x (suc t) (⊎_elim (λ (g : suc t ≤ x). absurd (true≢false (sym top_one ∙ ap C (omega arith) ∙ e))) (λ g. g) (le_or_lt (suc t) x)))

  pub count_with : count_below (suc t) (λ b. ltb 0 b && (C b || eqb b p || eqb b q)) + 1 ≡ n + (pick (C p) 0 1 + pick (C q) 0 1)
  count_with =
      let F : ℕ → Bool = λ b. C b || eqb b p || eqb b q in
      let at_zero : F 0 ≡ true = rw zero_one in
      let apart : (C q || eqb q p) ≡ C q = rw (ne_eqb q p (λ e. omega arith)) (or-false (C q)) in
      let one = count_inner F t in
      let two = count_or (λ b. C b || eqb b p) q (suc t) in
      let three = count_or C p (suc t) in
      let four : ◌≡◌ {A = ℕ} (pick (ltb q (suc t) && not (C q || eqb q p)) 1 0) (pick (C q) 0 1) = rw apart (counts q within (C q) refl) in
      omega (arith, rw at_zero at one, two, three, count_all W, four, counts p (omega arith) (C p) refl)

-- THE LAW: one fewer than the atoms and what a rule adds, which check 13 looks at
pub inner_count : (m : State) → Cuts (top m) m.atoms.cut m.atoms.count → (w p n : ℕ) → lower m.width w ≡ p → upper m.width w ≡ p + span m.width n → upper m.width w ≤ top m
    → inner_with m p n + 1 ≡ m.atoms.count + added m w
unfolding inner_with added
inner_count m W w p n e f h = rw (e, f) (go (top m) (pow_pos m.width) W (omega arith))
  where
    q : ℕ
    q = p + span m.width n

    go : (t : ℕ) → 0 < t → Cuts t m.atoms.cut m.atoms.count → q ≤ t
        → count_below t (λ b. ltb 0 b && (is_boundary m b || eqb b p || eqb b q)) + 1 ≡ m.atoms.count + (pick (is_boundary m p) 0 1 + pick (is_boundary m q) 0 1)
    go zero h W g = absurd (omega arith)
    go (suc t) h W g = count_with W p q (omega (arith, pow_pos (m.width - n))) g
