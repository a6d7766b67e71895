-- The lines of a stream: what the document's listing shows of each record. Assumes nothing: these are definitions.
use Rattle.std.specs.Prelude.{List, [], ◌∷◌, ℕ, zero, suc, eqb, length, drop}
use Rattle.meaning.specs.declared.Answer.{Answer}
use Rattle.meaning.specs.Search.{pick}
use Rattle.meaning.specs.Hall.{State, fresh}
use Rattle.meaning.specs.Step.{Done, step_of}

-- a line: the answer, and the words written
pub record Line : Type 0 where
  pub answer : Answer
  pub written : List ℕ

module _ (step : State → ℕ → List ℕ → Done) where
  -- a line for each record that is gone past, where the lent list has room words
  unfoldable pub lines_from : ℕ → ℕ → State → List ℕ → List Line
  lines_from room zero m s = []
  lines_from room (suc k) m s =
      let d = step m room s in
      let more = lines_from room k d.left (drop d.passed s) in
      let lines : List Line = record { answer = d.answer; written = d.written } ∷ more in
      pick (eqb d.passed 0) [] lines

-- the lines of the bytes s, from a fresh box
unfoldable pub lines_of : ℕ → List ℕ → List Line
lines_of room s = lines_from step_of room (length s) fresh s
