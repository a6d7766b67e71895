-- The digits of a number, from one to eight at once. Assumes nothing.
use mathlib.Core.Path.{◌≡◌, refl, ap, ◌∙◌}
use mathlib.Core.List.{List, [], ◌∷◌, ◌++◌, append_assoc}
use mathlib.Core.Bool.{Bool, true, false}
use Prim.Native.Nat.{ℕ, zero, suc, ◌+◌, ◌/◌, ◌%◌, ◌≤◌, ◌<◌}
use native.Mathlib.Omega.{arith}
use lib.Dec.{ltb}
use borrow.Author.Tests.{lt-ltb, le-ltb, ltb-false}
use Rattle.meaning.specs.Search.{pick}
use Rattle.print.specs.Text.{spelled, decimal, pair, four, eight}

-- how many digits are allowed does not matter, once they are enough
spelled_same : (j k n : ℕ) → n < j → n < k → spelled j n ≡ spelled k n
unfolding spelled
spelled_same zero k n hj hk = absurd (omega arith)
spelled_same (suc j) zero n hj hk = absurd (omega arith)
spelled_same (suc j) (suc k) n hj hk = go (ltb n 10) refl (λ (h : 10 ≤ n). spelled_same j k (n / 10) (omega arith) (omega arith)) where
  go : (b : Bool) → ltb n 10 ≡ b → (10 ≤ n → spelled j (n / 10) ≡ spelled k (n / 10)) → spelled (suc j) n ≡ spelled (suc k) n
  go true e h = rw e
  go false e h = ap (λ (s : List ℕ). pick (ltb n 10) ((48 + n) ∷ []) (s ++ ((48 + n % 10) ∷ []))) (h (ltb-false n 10 e))

pub one : (n : ℕ) → n < 10 → decimal n ≡ (48 + n) ∷ []
unfolding decimal spelled
one n h = rw (lt-ltb n 10 h)

-- all but the last digit, and the last
step : (n : ℕ) → 10 ≤ n → decimal n ≡ decimal (n / 10) ++ ((48 + n % 10) ∷ [])
unfolding decimal spelled
step n h =
    rw (le-ltb n 10 h)
    (ap (λ (s : List ℕ). s ++ ((48 + n % 10) ∷ [])) (spelled_same n (suc (n / 10)) (n / 10) (omega arith) (omega arith)))

-- all but the last two, and those
hundred : (n : ℕ) → 100 ≤ n → decimal n ≡ decimal (n / 100) ++ pair (n % 100)
hundred n h =
    let e₁ : n / 10 / 10 ≡ n / 100 = omega arith in
    let e₂ : n / 10 % 10 ≡ n % 100 / 10 = omega arith in
    let e₃ : n % 10 ≡ n % 100 % 10 = omega arith in
    step n (omega arith)
    ∙ ap (λ (s : List ℕ). s ++ ((48 + n % 10) ∷ [])) (step (n / 10) (omega arith))
    ∙ append_assoc (decimal (n / 10 / 10)) ((48 + n / 10 % 10) ∷ []) ((48 + n % 10) ∷ [])
    ∙ rw (e₁, e₂, e₃)

pub two : (n : ℕ) → 10 ≤ n → n < 100 → decimal n ≡ pair n
two n h h' = step n h ∙ ap (λ (s : List ℕ). s ++ ((48 + n % 10) ∷ [])) (one (n / 10) (omega arith))

pub three : (n : ℕ) → 100 ≤ n → n < 1000 → decimal n ≡ (48 + n / 100) ∷ pair (n % 100)
three n h h' = hundred n h ∙ ap (λ (s : List ℕ). s ++ pair (n % 100)) (one (n / 100) (omega arith))

pub four_digits : (n : ℕ) → 1000 ≤ n → n < 10000 → decimal n ≡ four n
four_digits n h h' = hundred n (omega arith) ∙ ap (λ (s : List ℕ). s ++ pair (n % 100)) (two (n / 100) (omega arith) (omega arith))

-- all but the last four, and those
pub more : (n : ℕ) → 10000 ≤ n → decimal n ≡ decimal (n / 10000) ++ four (n % 10000)
more n h =
    let e₁ : n / 100 / 100 ≡ n / 10000 = omega arith in
    let e₂ : n / 100 % 100 ≡ n % 10000 / 100 = omega arith in
    let e₃ : n % 100 ≡ n % 10000 % 100 = omega arith in
    hundred n (omega arith)
    ∙ ap (λ (s : List ℕ). s ++ pair (n % 100)) (hundred (n / 100) (omega arith))
    ∙ append_assoc (decimal (n / 100 / 100)) (pair (n / 100 % 100)) (pair (n % 100))
    ∙ rw (e₁, e₂, e₃)

-- all but the last eight, and those
pub most : (n : ℕ) → 100000000 ≤ n → decimal n ≡ decimal (n / 100000000) ++ eight (n % 100000000)
most n h =
    let e₁ : n / 10000 / 10000 ≡ n / 100000000 = omega arith in
    let e₂ : n / 10000 % 10000 ≡ n % 100000000 / 10000 = omega arith in
    let e₃ : n % 10000 ≡ n % 100000000 % 10000 = omega arith in
    more n (omega arith)
    ∙ ap (λ (s : List ℕ). s ++ four (n % 10000)) (more (n / 10000) (omega arith))
    ∙ append_assoc (decimal (n / 10000 / 10000)) (four (n / 10000 % 10000)) (four (n % 10000))
    ∙ rw (e₁, e₂, e₃)
