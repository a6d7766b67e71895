-- Rules by their words, over the width of their addresses: those that stand at a node, those that tie, a node's links, and the best among gathered ones. Assumes nothing: these are definitions.
use Rattle.std.specs.Prelude.{◌≡◌, Bool, true, ◌&&◌, List, ℕ, zero, suc, ◌-◌, ◌/◌, ◌^◌, ◌<◌, ◌≤◌, eqb, get_or, Option, Some, None, MatchOption, ⊤}
use Rattle.meaning.specs.Search.{pick}
use Rattle.meaning.specs.Rule.{live, link_of, rank, overlap}
use Rattle.meaning.specs.Winner.{better}

-- the word x is of a live rule at node v
unfoldable pub standing : ℕ → List ℕ → ℕ → ℕ → Bool
standing width link v x = live x && eqb (get_or link (link_of width x) 0 / 1024) v

-- the word x is of a live rule at node v that overlaps with w and has the same rank
unfoldable pub tying : ℕ → List ℕ → ℕ → ℕ → ℕ → Bool
tying width link v w x = live x && (eqb (get_or link (link_of width x) 0 / 1024) v && (eqb (rank width x) (rank width w) && overlap width x w))

-- the word of 64 bits that are all b
abbrev pub mask_of : Bool → ℕ
mask_of b = pick b (2 ^ 64 - 1) 0

-- the links that `here` marks, by words whose bits are all set, are those whose source is node v
pub record Marks (link : List ℕ) (v : ℕ) (here : List ℕ) : Type 0 where
  pub right : (l : ℕ) → l < 64 → get_or here l 0 ≡ mask_of (eqb (get_or link l 0 / 1024) v)

-- where rule k stands at node v and overlaps with w, it is among the gathered
abbrev pub IsAmong : (width : ℕ) (link rule : List ℕ) (v w : ℕ) (among : List ℕ) (count k : ℕ) → Type 0
IsAmong width link rule v w among count k =
    standing width link v (get_or rule k 0) ≡ true → overlap width (get_or rule k 0) w ≡ true → (j : ℕ) × (j < count) × (get_or among j 0 ≡ k)

-- the numbers in `among`, count of them, are those of the rules below i that stand at node v and overlap with w
pub record Gathering (width : ℕ) (link rule : List ℕ) (v w : ℕ) (among : List ℕ) (count i : ℕ) : Type 0 where
  pub few : count ≤ i
  pub within : (j : ℕ) → j < count → get_or among j 0 < i
  pub each : (j : ℕ) → j < count → standing width link v (get_or rule (get_or among j 0) 0) ≡ true
  pub all : (k : ℕ) → k < i → IsAmong width link rule v w among count k

-- the numbers in `among`, count of them, are those of the live rules at node v that overlap with w
abbrev pub Gathers : (width : ℕ) (link rule : List ℕ) (v w : ℕ) (among : List ℕ) (count : ℕ) → Type 0
Gathers width link rule v w among count = Gathering width link rule v w among count 256

-- the number of a rule that was looked for, and 256 for none
abbrev pub number_of : Option ℕ → ℕ
number_of (Some i) = i
number_of None = 256

-- what was found is the number of a rule
abbrev pub IsRule : Option ℕ → Type 0
IsRule o = MatchOption o ⊤ (λ i. i < 256)

-- the one of the highest rank among the first gathered that have E, or 256
unfoldable pub best_in : (ℕ → Bool) → (ℕ → ℕ) → List ℕ → ℕ → ℕ
best_in E r among zero = 256
best_in E r among (suc j) = better E r (best_in E r among j) (get_or among j 0)
