-- Laws of the searches below a bound: whether some number has a property, which is the lowest, how many have it; and of tables by their entries.
-- Assumes nothing.
use mathlib.Core.Bool.{Bool, true, false, ◌&&◌, ◌||◌, true≢false, or-true, and-eq-true_iff}
use mathlib.Core.Logic.{◌⊎◌, inl, inr, ◌↔◌, ⊎_elim}
use mathlib.Core.Path.{◌≡◌, refl, sym, ap, ◌∙◌, ap₂}
use mathlib.Core.Option.{Option, none, some}
use Prim.Native.Nat.{ℕ, zero, suc, ◌+◌, ◌<◌, ◌-◌, ◌≤◌}
use native.Mathlib.Nat.{not-suc-le-zero, add-zero, add-suc, le_of_suc-le-suc, eq-or-lt_of_le}
use native.Mathlib.Decide.{ℕ_discrete}
use native.Mathlib.Numerals.{add-one}
use native.Mathlib.Omega.{arith}
use lib.ListN.{length, get_or, length-replicate, get_or-replicate}
use lib.Seq.{ext_get_or}
use Rattle.meaning.specs.Search.{any_below, tabulate, pick, count_below, or_else, lowest_below}
use Rattle.meaning.specs.Hall.{zeroes}
use Rattle.meaning.proofs.base.Order.{clash, Order, less, same, more, order}

pub tab_length : (n i : ℕ) (f : ℕ → ℕ) → length (tabulate n i f) ≡ n
unfolding tabulate
tab_length zero i f = refl
tab_length (suc n) i f = ap suc (tab_length n (suc i) f)

pub tab_at : (n i : ℕ) (f : ℕ → ℕ) (k : ℕ) → k < n → get_or (tabulate n i f) k 0 ≡ f (i + k)
unfolding tabulate
tab_at zero i f k h = absurd (not-suc-le-zero h)
tab_at (suc n) i f zero h = rw add-zero
tab_at (suc n) i f (suc k) h = tab_at n (suc i) f k (omega arith) ∙ ap f (omega arith)

pub any_true : (P : ℕ → Bool) (n i : ℕ) → i < n → P i ≡ true → any_below n P ≡ true
unfolding any_below
any_true P zero i l e = absurd (not-suc-le-zero l)
any_true P (suc n) i l e = go (any_true P n i) (ℕ_discrete i n)
  where
    go : (i < n → P i ≡ true → any_below n P ≡ true) → Dec (i ≡ n) → (any_below n P || P n) ≡ true
    go f (yes q) = ap (λ (b : Bool). any_below n P || b) (sym (ap P q) ∙ e) ∙ or-true (any_below n P)
    go f (no q) = ap (λ (b : Bool). b || P n) (f (omega arith) e)

pub any_more : (P : ℕ → Bool) (n : ℕ) → any_below (n + 1) P ≡ any_below n P || P n
unfolding any_below
any_more P n = ap (λ (x : ℕ). any_below x P) (add-one n)

pub any_some : (P : ℕ → Bool) (n : ℕ) → any_below n P ≡ true → (i : ℕ) × (i < n) × (P i ≡ true)
unfolding any_below
any_some P zero e = absurd (true≢false (sym e))
any_some P (suc n) e = go (any_below n P) refl (P n) refl e (any_some P n)
  where
    go : (a : Bool) → any_below n P ≡ a → (b : Bool) → P n ≡ b → (a || b) ≡ true → (any_below n P ≡ true → (i : ℕ) × (i < n) × (P i ≡ true)) → (i : ℕ) × (i < suc n) × (P i ≡ true)
    go true p b q h f = let r = f p in (r.0, omega (arith, r.1), r.2)
    go false p true q h f = (n, omega arith, q)
    go false p false q h f = absurd (true≢false (sym h))

-- where no number but i can have P, to ask whether one below n has it is to ask whether i has it
pub any_one : (P : ℕ → Bool) (n i : ℕ) → i < n → ((j : ℕ) → j < n → P j ≡ true → j ≡ i) → any_below n P ≡ P i
any_one P n i l h = go (P i) refl (any_below n P) refl
  where
    go : (s : Bool) → P i ≡ s → (t : Bool) → any_below n P ≡ t → t ≡ s
    go true e t f = sym f ∙ any_true P n i l e
    go false e false f = refl
    go false e true f = let r = any_some P n f in absurd (true≢false (sym r.2 ∙ ap P (h r.0 r.1 r.2) ∙ e))

pub and_both : (a b : Bool) → (a && b) ≡ true → (a ≡ true) × (b ≡ true)
and_both a b = (and-eq-true_iff a b).0

pub or_either : (a b : Bool) → (a || b) ≡ true → (a ≡ true) ⊎ (b ≡ true)
or_either true b e = inl refl
or_either false b e = inr e

pub or_neither : (a b : Bool) → (a || b) ≡ false → (a ≡ false) × (b ≡ false)
or_neither true b e = absurd (true≢false e)
or_neither false b e = (refl, e)

pub any_false : (P : ℕ → Bool) (n : ℕ) → any_below n P ≡ false → (i : ℕ) → i < n → P i ≡ false
unfolding any_below
any_false P zero e i l = absurd (not-suc-le-zero l)
any_false P (suc n) e i l = let h = or_neither (any_below n P) (P n) e in go (any_false P n h.0 i) h.1 (ℕ_discrete i n)
  where
    go : (i < n → P i ≡ false) → P n ≡ false → Dec (i ≡ n) → P i ≡ false
    go f h (yes q) = ap P q ∙ h
    go f h (no q) = f (omega arith)

pub any_off : (P : ℕ → Bool) (n : ℕ) → ((i : ℕ) → i < n → P i ≡ false) → any_below n P ≡ false
unfolding any_below
any_off P zero h = refl
any_off P (suc n) h = rw (any_off P n (λ i l. h i (omega arith)), h n (omega arith))

pub table_off : (n : ℕ) (f : ℕ → ℕ) → ((i : ℕ) → f i ≡ 0) → tabulate n 0 f ≡ zeroes n
table_off n f h =
    ext_get_or 0 _ _ (tab_length n 0 f ∙ sym (length-replicate {A = ℕ} n 0)) (λ i l.
    let g : i < n = omega (arith, tab_length n 0 f) in
    tab_at n 0 f i g ∙ h (0 + i) ∙ sym (get_or-replicate {A = ℕ} n i 0 0 g))

pub count_le : (P : ℕ → Bool) (n : ℕ) → count_below n P ≤ n
unfolding count_below
count_le P zero = omega arith
count_le P (suc n) = go (P n) (count_le P n)
  where
    go : (t : Bool) → count_below n P ≤ n → count_below n P + pick t 1 0 ≤ suc n
    go true h = omega arith
    go false h = omega arith

pub count_same : (P Q : ℕ → Bool) (n : ℕ) → ((j : ℕ) → j < n → P j ≡ Q j) → count_below n P ≡ count_below n Q
unfolding count_below
count_same P Q zero h = refl
count_same P Q (suc n) h = ap₂ (λ (x : ℕ) (t : Bool). x + pick t 1 0) (count_same P Q n (λ j l. h j (omega arith))) (h n (omega arith))

-- those below m, and the n from m on
pub count_add : (P : ℕ → Bool) (m n : ℕ) → count_below (m + n) P ≡ count_below m P + count_below n (λ j. P (m + j))
unfolding count_below
count_add P m zero = ap (λ (x : ℕ). count_below x P) (add-zero m) ∙ sym (add-zero (count_below m P))
count_add P m (suc n) = ap (λ (x : ℕ). count_below x P) (add-suc m n) ∙ omega (arith, count_add P m n)

-- none, and none from m on
pub count_none : (P : ℕ → Bool) (n : ℕ) → ((j : ℕ) → j < n → P j ≡ false) → count_below n P ≡ 0
unfolding count_below
count_none P zero h = refl
count_none P (suc n) h = rw (h n (omega arith), count_none P n (λ j l. h j (omega arith)))

pub count_until : (P : ℕ → Bool) (m n : ℕ) → m ≤ n → ((j : ℕ) → m ≤ j → j < n → P j ≡ false) → count_below n P ≡ count_below m P
count_until P m n h f =
    let e : m + (n - m) ≡ n = omega arith in
    ap (λ (x : ℕ). count_below x P) (sym e) ∙ count_add P m (n - m)
    ∙ omega (arith, count_none (λ j. P (m + j)) (n - m) (λ j l. f (m + j) (omega arith) (omega arith)))

-- the first apart from the rest
pub count_front : (P : ℕ → Bool) (n : ℕ) → count_below (suc n) P ≡ pick (P 0) 1 0 + count_below n (λ j. P (suc j))
unfolding count_below
count_front P zero = omega arith
count_front P (suc n) = omega (arith, count_front P n)

-- a is the lowest number below n that has P
pub record Lowest (n : ℕ) (P : ℕ → Type 0) (a : ℕ) : Type 0 where
  pub within : a < n
  pub has : P a
  pub first : (b : ℕ) → b < a → P b → ⊥

-- it is one number at most
pub lowest_once : (n : ℕ) (P : ℕ → Type 0) (a b : ℕ) → Lowest n P a → Lowest n P b → a ≡ b
lowest_once n P a b x y = go (order a b)
  where
    go : Order a b → a ≡ b
    go (less h) = absurd (y.first a h x.has)
    go (same e) = e
    go (more h) = absurd (x.first b h y.has)

-- where P and Q say the same of the numbers below n, they have the same lowest
pub lowest_by : (n : ℕ) (P Q : ℕ → Type 0) → ((i : ℕ) → i < n → P i ↔ Q i) → (a : ℕ) → Lowest n P a → Lowest n Q a
lowest_by n P Q f a x = record { within = x.within; has = (f a x.within).0 x.has; first = λ b h q. x.first b h ((f b (omega (arith, x.within))).1 q) }

-- what a search for P below n comes to
pub data Sought (P : ℕ → Bool) (n : ℕ) : Option ℕ → Type 0 where
  missing : ((i : ℕ) → i < n → P i ≡ true → ⊥) → Sought P n none
  found : (a : ℕ) → Lowest n (λ i. P i ≡ true) a → Sought P n (some a)

pub sought : (P : ℕ → Bool) (n : ℕ) → Sought P n (lowest_below n P)
unfolding lowest_below
sought P zero = missing (λ i h. absurd (not-suc-le-zero h))
sought P (suc n) = go (lowest_below n P) (sought P n) (P n) refl
  where
    go : (o : Option ℕ) → Sought P n o → (t : Bool) → P n ≡ t → Sought P (suc n) (or_else o (pick t (some n) none))
    go o (found a x) t e = found a (record { within = omega (arith, x.within); has = x.has; first = x.first })
    go o (missing f) true e = found n (record { within = omega arith; has = e; first = f })
    go o (missing f) false e =
        missing (λ i h p. ⊎_elim (λ (q : i ≡ n). true≢false (sym p ∙ ap P q ∙ e)) (λ (l : i < n). f i l p) (eq-or-lt_of_le (le_of_suc-le-suc h)))

-- two searches for the same numbers
pub lowest_agree : (P Q : ℕ → Bool) (m n : ℕ) → ((i : ℕ) → i < m → P i ≡ true → (i < n) × (Q i ≡ true)) → ((i : ℕ) → i < n → Q i ≡ true → (i < m) × (P i ≡ true))
    → lowest_below m P ≡ lowest_below n Q
lowest_agree P Q m n f g = go _ _ (sought P m) (sought Q n)
  where
    go : (o p : Option ℕ) → Sought P m o → Sought Q n p → o ≡ p
    go o p (missing x) (missing y) = refl
    go o p (missing x) (found b y) = let z = g b y.within y.has in absurd (x b z.0 z.1)
    go o p (found a x) (missing y) = let z = f a x.within x.has in absurd (y a z.0 z.1)
    go o p (found a x) (found b y) = ap some (lowest_once m (λ i. P i ≡ true) a b x (record {
      within = (g b y.within y.has).0;
      has = (g b y.within y.has).1;
      first = λ i h e. y.first i h (f i (omega (arith, (g b y.within y.has).0)) e).1;
    }))

module _ (P : ℕ → Bool) (n : ℕ) where
  pub lowest_is : (a : ℕ) → (lowest_below n P ≡ some a) ↔ Lowest n (λ i. P i ≡ true) a
  lowest_is a = (there _ (sought P n), back _ (sought P n))
    where
      there : (o : Option ℕ) → Sought P n o → o ≡ some a → Lowest n (λ i. P i ≡ true) a
      there o (missing f) e = clash cc
      there o (found b x) e = let q : b ≡ a = cc in rw q at x

      back : (o : Option ℕ) → Sought P n o → Lowest n (λ i. P i ≡ true) a → o ≡ some a
      back o (missing f) x = absurd (f a x.within x.has)
      back o (found b y) x = ap some (lowest_once n (λ i. P i ≡ true) b a y x)

  pub lowest_none : (lowest_below n P ≡ none) ↔ ((i : ℕ) → i < n → P i ≡ true → ⊥)
  lowest_none = (there _ (sought P n), back _ (sought P n))
    where
      there : (o : Option ℕ) → Sought P n o → o ≡ none → (i : ℕ) → i < n → P i ≡ true → ⊥
      there o (missing f) e = f
      there o (found b x) e = clash cc

      back : (o : Option ℕ) → Sought P n o → ((i : ℕ) → i < n → P i ≡ true → ⊥) → o ≡ none
      back o (missing f) g = refl
      back o (found b x) g = absurd (g b x.within x.has)

  -- the same by tests: none where all of them fail, and the one that holds where those before it fail
  pub lowest_off : ((i : ℕ) → i < n → P i ≡ false) → lowest_below n P ≡ none
  lowest_off f = lowest_none.1 (λ i h e. true≢false (sym e ∙ f i h))

  pub lowest_first : (a : ℕ) → a < n → P a ≡ true → ((i : ℕ) → i < a → P i ≡ false) → lowest_below n P ≡ some a
  lowest_first a h e f = (lowest_is a).1 (record { within = h; has = e; first = λ i l p. true≢false (sym p ∙ f i l) })
