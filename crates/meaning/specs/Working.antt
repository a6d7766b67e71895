-- How the box works things out, and nothing that a reader must believe: the owners, which it keeps beside the labels, and the questions over
-- places. Owners are determined by the rest of the state; by a law the places answer as the addresses do (proofs/atoms/Constant: by_place_lem).
-- Assumes nothing: these are definitions.
use Rattle.std.specs.Prelude.{List, Bool, ℕ, zero, suc, ◌+◌, ◌-◌, ◌*◌, ◌/◌, ◌%◌, ltb, eqb, get_or}
use Rattle.std.proofs.Math.Option.{Option, none, some}
use Rattle.meaning.specs.declared.Answer.{Answer}
use Rattle.meaning.specs.Search.{pick, or_else, lowest_below, tabulate}
use Rattle.meaning.specs.Hall.{State}
use Rattle.meaning.specs.Rule.{link_of}
use Rattle.meaning.specs.Winner.{rule_at, winner}
use Rattle.meaning.specs.Questions.{asked}
use Rattle.meaning.specs.Records.{Question, read_of}
use Rattle.meaning.specs.Step.{Done, step_with}

-- ---- each atom's owners: its winner at each node

-- rule w as an owner, 0 for none: its link, then its number, counted from 1
unfoldable pub owner_word : State → ℕ → ℕ
owner_word m w = pick (ltb w 256) (link_of m.width (rule_at m w) * 512 + (w + 1)) 0

-- the winner at node v of the atom at a place, or none
unfoldable pub owner_at : State → ℕ → Option ℕ → ℕ
owner_at m v none = 0
owner_at m v (some p) = owner_word m (winner m v (get_or m.atoms.cut p 0))

-- the place of atom k
unfoldable pub place_with : State → ℕ → Option ℕ
place_with m k = lowest_below m.atoms.count (λ p. eqb (get_or m.atoms.number p 0) k)

-- the owner of atom k at node v has the word 16 k + v
unfoldable pub owners_of : State → List ℕ
owners_of m = tabulate 8192 0 (λ i. owner_at m (i % 16) (place_with m (i / 16)))

-- ---- the questions over places

-- each place by its lower end and its width: what can be computed
unfoldable pub least_place : List ℕ → ℕ → (ℕ → Bool) → Option ℕ
least_place cut zero P = none
least_place cut (suc p) P = or_else (least_place cut p P) (pick (P (get_or cut p 0)) (some (get_or cut p 0)) none)

unfoldable pub count_place : List ℕ → ℕ → (ℕ → Bool) → ℕ
count_place cut zero P = 0
count_place cut (suc p) P = count_place cut p P + pick (P (get_or cut p 0)) (get_or cut (suc p) 0 - get_or cut p 0) 0

unfoldable pub by_place : State → Question → Answer
by_place m = asked (least_place m.atoms.cut m.atoms.count) (count_place m.atoms.cut m.atoms.count) m

-- a step whose questions are answered so
unfoldable pub step_in : State → ℕ → List ℕ → Done
step_in m room s = step_with (by_place m) m room (read_of s)
