-- A number in decimal, as the list of its bytes, and what it is to write a text into a lent buffer at a place.
-- Assumes nothing: these are definitions.
use Rattle.std.specs.Prelude.{◌≡◌, List, [], ◌∷◌, ◌++◌, ℕ, zero, suc, ◌+◌, ◌*◌, ◌/◌, ◌%◌, ◌<◌, ◌≤◌, ltb, length}
use Rattle.std.proofs.lemmas.List.Edits.{sets}
use Rattle.meaning.specs.Search.{pick}

-- the digits of n, the highest first, with no zero in front; k bounds how many there are
unfoldable pub spelled : ℕ → ℕ → List ℕ
spelled zero n = []
spelled (suc k) n = pick (ltb n 10) ((48 + n) ∷ []) (spelled k (n / 10) ++ ((48 + n % 10) ∷ []))

-- a number in decimal: 48 is the byte of the digit 0
unfoldable pub decimal : ℕ → List ℕ
decimal n = spelled (suc n) n

-- the two digits of a number below 100, the four of one below 10,000 and the eight of one below 100,000,000
abbrev pub pair : ℕ → List ℕ
pair n = (48 + n / 10) ∷ (48 + n % 10) ∷ []

abbrev pub four : ℕ → List ℕ
four n = pair (n / 100) ++ pair (n % 100)

abbrev pub eight : ℕ → List ℕ
eight n = four (n / 10000) ++ four (n % 10000)

-- bytes in one word, the first lowest
abbrev pub packed : List ℕ → ℕ
packed [] = 0
packed (b ∷ bs) = b + packed bs * 256

-- THE CONTRACT of all that writes: the text stands in the buffer from the place on, everything else is as it was, and the next
-- place is just behind it. The last two follow from the first two: the buffer's length is kept, and the text has few bytes.
pub record Wrote (most : ℕ) (text old new : List ℕ) (at next : ℕ) : Type 0 where
  pub bytes : new ≡ sets old at text
  pub moved : next ≡ at + length text
  pub kept : length new ≡ length old
  pub near : next ≤ at + most

-- THE CONTRACT of the public functions, for any buffer and any place: with so much room from the place on the text is written; with less the
-- buffer and the place stay.
pub record WroteIfRoom (most : ℕ) (text old new : List ℕ) (at next : ℕ) : Type 0 where
  pub fits : at + most ≤ length old → Wrote most text old new at next
  pub full : length old < at + most → (new ≡ old) × (next ≡ at)
