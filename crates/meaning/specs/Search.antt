-- Choosing by a test, and finding and counting the numbers below a bound that have a property.
-- Assumes nothing: these are definitions.
use Rattle.std.specs.Prelude.{Bool, true, false, ◌||◌, List, [], ◌∷◌, ℕ, zero, suc, ◌+◌}
use Rattle.std.proofs.Math.Option.{Option, none, some}
use Rattle.std.specs.Prelude.{Option as Found, Some as At, None as Nothing}

-- the first where the test holds, else the second
abbrev pub pick {ℓ} : {A : Type ℓ} → Bool → A → A → A
pick true x y = x
pick false x y = y

-- the first where there is one, else the second
abbrev pub or_else : Option ℕ → Option ℕ → Option ℕ
or_else (some x) o = some x
or_else none o = o

-- some number below n has P
unfoldable pub any_below : ℕ → (ℕ → Bool) → Bool
any_below zero P = false
any_below (suc n) P = any_below n P || P n

-- the lowest number below n that has P
unfoldable pub lowest_below : ℕ → (ℕ → Bool) → Option ℕ
lowest_below zero P = none
lowest_below (suc n) P = or_else (lowest_below n P) (pick (P n) (some n) none)

-- what was found, as such a number
unfoldable pub found : Found ℕ → Option ℕ
found (At i) = some i
found Nothing = none

-- how many numbers below n have P
unfoldable pub count_below : ℕ → (ℕ → Bool) → ℕ
count_below zero P = 0
count_below (suc n) P = count_below n P + pick (P n) 1 0

-- f i, f (i + 1) and so on, n in all
unfoldable pub tabulate : ℕ → ℕ → (ℕ → ℕ) → List ℕ
tabulate zero i f = []
tabulate (suc n) i f = f i ∷ tabulate n (suc i) f
