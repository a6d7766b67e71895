-- The label of a link: the set of atoms whose winner at the link's source names the link. It is determined by the rest of the state.
-- Assumes nothing: these are definitions.
use Rattle.std.specs.Prelude.{List, Bool, false, ◌&&◌, ℕ, zero, suc, ◌+◌, ◌*◌, ◌/◌, ◌%◌, ◌^◌, ltb, eqb, get_or}
use Rattle.std.proofs.Math.Option.{Option, none, some}
use Rattle.meaning.specs.Search.{pick, any_below, lowest_below, count_below, tabulate}
use Rattle.meaning.specs.Hall.{State, source_of}
use Rattle.meaning.specs.Winner.{next_at}

unfoldable pub names : Option ℕ → ℕ → Bool
names none l = false
names (some k) l = eqb k l

-- atom k is on link l: at k's place, the winner at l's source names l
unfoldable pub is_on : State → ℕ → ℕ → Bool
is_on m l k = any_below m.atoms.count (λ p. eqb (get_or m.atoms.number p 0) k && names (next_at m (get_or m.atoms.cut p 0) (source_of m l)) l)

-- the word of n bits whose bit j says f j
unfoldable pub word_of : ℕ → (ℕ → Bool) → ℕ
word_of zero f = 0
word_of (suc n) f = pick (f 0) 1 0 + 2 * word_of n (λ j. f (suc j))

-- link l has the words from 8 l to 8 l + 7, and its atom k is bit k % 64 of word k / 64 of these
unfoldable pub labels_of : State → List ℕ
labels_of m = tabulate 512 0 (λ i. word_of 64 (λ j. is_on m (i / 8) (64 * (i % 8) + j)))

-- bit j of the word w, the lowest first
abbrev pub bit : ℕ → ℕ → ℕ
bit w j = w / 2 ^ j % 2

-- atom k is on link l, asked of the words of a label table
abbrev pub on : List ℕ → ℕ → ℕ → Bool
on label l k = eqb (bit (get_or label (8 * l + k / 64) 0) (k % 64)) 1

-- how many atoms link l has, and the lowest-numbered one, asked of its label; there are no links but 64
unfoldable pub how_many : List ℕ → ℕ → ℕ
how_many label l = pick (ltb l 64) (count_below 512 (on label l)) 0

unfoldable pub lowest_on : List ℕ → ℕ → Option ℕ
lowest_on label l = pick (ltb l 64) (lowest_below 512 (on label l)) none
