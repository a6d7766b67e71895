-- Laws of `better` and `best`: the winner is the one eligible rule of the highest rank.
-- Assumes nothing.
use mathlib.Core.Path.{◌≡◌, refl, sym, ap, ◌∙◌, subst, subst⁻¹}
use mathlib.Core.Logic.{◌⊎◌, inl, inr, ⊎_elim}
use mathlib.Core.Bool.{Bool, true, false, true≢false}
use Prim.Native.Nat.{ℕ, zero, suc, ◌≤◌, ◌<◌}
use native.Mathlib.Nat.{eq-or-lt_of_le, le_of_suc-le-suc, not-suc-le-zero}
use native.Mathlib.Omega.{arith}
use borrow.Author.Tests.{lt-ltb, le-ltb, eq-eqb, ne_eqb}
use Rattle.meaning.specs.Search.{pick}
use Rattle.meaning.specs.Winner.{better, best}
use Rattle.meaning.proofs.base.Order.{le_or_lt, Order, less, same, more, order}

-- w is the one eligible rule of the first n that outranks every other
pub record Wins (E : ℕ → Bool) (rank : ℕ → ℕ) (n w : ℕ) : Type 0 where
  pub within : w < n
  pub fits : E w ≡ true
  pub highest : (i : ℕ) → i < n → E i ≡ true → (i ≡ w → ⊥) → rank i < rank w

-- no two eligible rules of the first n have the same rank
abbrev pub Distinct : (ℕ → Bool) → (ℕ → ℕ) → ℕ → Type 0
Distinct E rank n = (i j : ℕ) → i < n → j < n → E i ≡ true → E j ≡ true → rank i ≡ rank j → i ≡ j

module _ (E : ℕ → Bool) (rank : ℕ → ℕ) (w i : ℕ) where
  pub keep_out : E i ≡ false → w ≡ better E rank w i
  unfolding better
  keep_out e = rw e

  pub take_first : E i ≡ true → w ≡ 256 → i ≡ better E rank w i
  unfolding better
  take_first e h = rw (e, eq-eqb _ _ h)

  pub take_higher : E i ≡ true → (w ≡ 256 → ⊥) → rank w < rank i → i ≡ better E rank w i
  unfolding better
  take_higher e n h = rw (e, ne_eqb _ _ n) (ap (λ (b : Bool). pick b i w) (sym (lt-ltb (rank w) (rank i) h)))

  pub keep_lower : E i ≡ true → (w ≡ 256 → ⊥) → rank i ≤ rank w → w ≡ better E rank w i
  unfolding better
  keep_lower e n h = rw (e, ne_eqb _ _ n) (ap (λ (b : Bool). pick b i w) (sym (le-ltb (rank w) (rank i) h)))

  -- the same, with the two ranks as code has them
  pub higher_by : (x y : ℕ) → x ≡ rank w → y ≡ rank i → E i ≡ true → (w ≡ 256 → ⊥) → x < y → i ≡ better E rank w i
  higher_by x y p q e n h = take_higher e n (omega arith)

  pub lower_by : (x y : ℕ) → x ≡ rank w → y ≡ rank i → E i ≡ true → (w ≡ 256 → ⊥) → y ≤ x → w ≡ better E rank w i
  lower_by x y p q e n h = keep_lower e n (omega arith)

-- what w is among the first k rules
pub data Foremost (E : ℕ → Bool) (rank : ℕ → ℕ) (k w : ℕ) : Type 0 where
  nobody : w ≡ 256 → ((i : ℕ) → i < k → E i ≡ true → ⊥) → Foremost E rank k w
  somebody : w < k → E w ≡ true → ((i : ℕ) → i < k → E i ≡ true → rank i ≤ rank w) → Foremost E rank k w

up_to : (P : ℕ → Type 0) (k : ℕ) → ((i : ℕ) → i < k → P i) → P k → (i : ℕ) → i < suc k → P i
up_to P k f h i l = ⊎_elim (λ e. subst⁻¹ P e h) (f i) (eq-or-lt_of_le (le_of_suc-le-suc l))

module _ (E : ℕ → Bool) (rank : ℕ → ℕ) where
  step : (k w : ℕ) → k < 256 → Foremost E rank k w → Foremost E rank (suc k) (better E rank w k)
  step k w l o = go (E k) refl o
    where
      rest : (w' : ℕ) → w' ≡ better E rank w k → Foremost E rank (suc k) w' → Foremost E rank (suc k) (better E rank w k)
      rest w' e p = subst (Foremost E rank (suc k)) e p

      go : (t : Bool) → E k ≡ t → Foremost E rank k w → Foremost E rank (suc k) (better E rank w k)
      go false e (nobody n f) = rest w (keep_out E rank w k e) (nobody n (up_to _ k f (λ d. true≢false (sym d ∙ e))))
      go false e (somebody a b f) = rest w (keep_out E rank w k e) (somebody (omega arith) b (up_to _ k f (λ d. absurd (true≢false (sym d ∙ e)))))
      go true e (nobody n f) = rest k (take_first E rank w k e n) (somebody (omega arith) e (up_to _ k (λ i h d. absurd (f i h d)) (λ d. omega arith)))
      go true e (somebody a b f) =
          ⊎_elim (λ (g : rank k ≤ rank w). rest w (keep_lower E rank w k e (λ z. omega arith) g) (somebody (omega arith) b (up_to _ k f (λ d. g))))
          (λ (g : rank w < rank k). rest k (take_higher E rank w k e (λ z. omega arith) g) (somebody (omega arith) e (up_to _ k (λ i h d. omega (arith, f i h d)) (λ d. omega arith))))
          (le_or_lt (rank k) (rank w))

  pub outcome : (k : ℕ) → k ≤ 256 → Foremost E rank k (best E rank k)
  unfolding best
  outcome zero l = nobody refl (λ i h. absurd (not-suc-le-zero h))
  outcome (suc k) l = step k (best E rank k) l (outcome k (omega arith))

  -- 256 where no rule is eligible, and else the one of the highest rank
  pub winner_law : (n : ℕ) → n ≤ 256 → Distinct E rank n
      → ((best E rank n ≡ 256) × ((i : ℕ) → i < n → E i ≡ true → ⊥)) ⊎ Wins E rank n (best E rank n)
  winner_law n l d = go (outcome n l)
    where
      go : Foremost E rank n (best E rank n) → ((best E rank n ≡ 256) × ((i : ℕ) → i < n → E i ≡ true → ⊥)) ⊎ Wins E rank n (best E rank n)
      go (nobody e f) = inl (e, f)
      go (somebody a b f) = inr (record {
        within = a;
        fits = b;
        highest = λ i h e z. ⊎_elim (λ (q : rank i ≡ rank (best E rank n)). absurd (z (d i (best E rank n) h a e b q))) (λ g. g) (eq-or-lt_of_le (f i h e));
      })

  -- there is one such rule at most
  pub wins_once : (n i j : ℕ) → Wins E rank n i → Wins E rank n j → i ≡ j
  wins_once n i j p q = go (order i j)
    where
      go : Order i j → i ≡ j
      go (less h) = absurd (omega (arith, p.highest j q.within q.fits (λ e. omega arith), q.highest i p.within p.fits (λ e. omega arith)))
      go (same e) = e
      go (more h) = absurd (omega (arith, p.highest j q.within q.fits (λ e. omega arith), q.highest i p.within p.fits (λ e. omega arith)))

pub best_ext : (E F : ℕ → Bool) (r : ℕ → ℕ) (k : ℕ) → ((i : ℕ) → i < k → E i ≡ F i) → best E r k ≡ best F r k
unfolding best better
best_ext E F r zero h = refl
best_ext E F r (suc k) h = rw (best_ext E F r k (λ i l. h i (omega arith)), h k (omega arith))

pub best_off : (E : ℕ → Bool) (r : ℕ → ℕ) (k : ℕ) → ((i : ℕ) → E i ≡ false) → best E r k ≡ 256
unfolding best better
best_off E r zero h = refl
best_off E r (suc k) h = rw (h k, best_off E r k h)
