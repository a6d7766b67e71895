-- The fields of a record that was read fit their bytes. Assumes nothing.
use mathlib.Core.Path.{◌≡◌, refl}
use mathlib.Core.List.{List, [], ◌∷◌}
use Prim.Native.Nat.{ℕ, zero, suc, ◌+◌, ◌^◌, ◌<◌}
use native.Mathlib.Nat.{mod-lt, zero-lt-suc, pow-suc}
use native.Mathlib.Omega.{arith}
use lib.ListN.{get_or}
use Rattle.meaning.specs.declared.Record.TheVariants.{Hall, Link, Close, Insert, Remove, Loop, Fate, Reach, Tally}
use Rattle.meaning.specs.Hall.{ipv4}
use Rattle.meaning.specs.Records.{number, record_of, SetUp, hall, link, close, Update, insert, remove, Sort, set_up, update, question, sort_of}

pub number_lt : (s : List ℕ) (i n : ℕ) → number s i n < 256 ^ n
unfolding number
number_lt s i zero = omega arith
number_lt s i (suc n) = omega (arith, pow-suc 256 n, number_lt s i n, mod-lt (get_or s (i + n) 0) (zero-lt-suc 255))

-- the bounds that the sizes of an insert's fields give, where its prefix is an address of a width
pub record Sized (width l p t : ℕ) : Type 0 where
  pub link : l < 256
  pub prefix : p < 2 ^ width
  pub priority : t < 2 ^ 16

unfoldable pub FitsSetUp : SetUp → Type 0
FitsSetUp (hall n) = Unit {0}
FitsSetUp (link s c e) = e < 256
FitsSetUp close = Unit {0}

unfoldable pub FitsUpdate : ℕ → Update → Type 0
FitsUpdate width (insert r l p n t) = Sized width l p t
FitsUpdate width (remove r) = Unit {0}

unfoldable pub Fits : ℕ → Sort → Type 0
Fits width (set_up u) = FitsSetUp u
Fits width (update u) = FitsUpdate width u
Fits width (question q) = Unit {0}

-- an IPv4 address is what four bytes hold
pub four_bytes : 256 ^ 4 ≡ 2 ^ ipv4
four_bytes = refl

-- so the fields of a record that is read
pub fits : (s : List ℕ) → Fits ipv4 (sort_of (record_of s))
unfolding record_of sort_of Fits FitsSetUp FitsUpdate
fits s = go (get_or s 0 0)
  where
    go : (k : ℕ) → Fits ipv4 (sort_of (get_or
        (Close
        ∷ Hall (number s 1 1)
        ∷ Link (number s 1 1) (number s 2 1) (number s 3 1)
        ∷ Close
        ∷ Insert (number s 1 2) (number s 3 1) (number s 4 4) (number s 8 1) (number s 9 2)
        ∷ Remove (number s 1 2)
        ∷ Loop
        ∷ Fate (number s 1 1) (number s 2 4)
        ∷ Reach (number s 1 1) (number s 2 1)
        ∷ Tally (number s 1 1)
        ∷ []) k Close))
    go zero = tt
    go (suc zero) = tt
    go (suc (suc zero)) = number_lt s 3 1
    go (suc (suc (suc zero))) = tt
    go (suc (suc (suc (suc zero)))) = record { link = number_lt s 3 1; prefix = rw (← four_bytes) (number_lt s 4 4); priority = number_lt s 9 2 }
    go (suc (suc (suc (suc (suc zero))))) = tt
    go (suc (suc (suc (suc (suc (suc zero)))))) = tt
    go (suc (suc (suc (suc (suc (suc (suc zero))))))) = tt
    go (suc (suc (suc (suc (suc (suc (suc (suc zero)))))))) = tt
    go (suc (suc (suc (suc (suc (suc (suc (suc (suc zero))))))))) = tt
    go (suc (suc (suc (suc (suc (suc (suc (suc (suc (suc k)))))))))) = tt
