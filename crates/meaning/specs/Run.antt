-- A run over a whole stream, and which states come from a fresh one by records. Assumes nothing: these are definitions.
use Rattle.std.specs.Prelude.{List, ℕ, zero, suc, ◌+◌, eqb, length, drop}
use Rattle.meaning.specs.declared.Answer.{Answer}
use Rattle.meaning.specs.declared.Answer.TheVariants.{End}
use Rattle.meaning.specs.Search.{pick}
use Rattle.meaning.specs.Hall.{State, fresh}
use Rattle.meaning.specs.Changes.{overwrite}
use Rattle.meaning.specs.Step.{Done, step_of}

-- what a run gives: how many records it went past, the answer it stopped at, the state left, and the lent list
pub record Ran : Type 0 where
  pub past : ℕ
  pub stopped : Answer
  pub left : State
  pub list : List ℕ

module _ (step : State → ℕ → List ℕ → Done) where
  -- from the state m after n records, over the bytes s, with a lent list; it stops where no byte is passed, and k bounds the steps
  unfoldable pub run_from : ℕ → ℕ → State → List ℕ → List ℕ → Ran
  run_from zero n m list s = record { past = n; stopped = End; left = m; list = list }
  run_from (suc k) n m list s =
      let d = step m (length list) s in
      let more = run_from k (n + 1) d.left (overwrite d.written list) (drop d.passed s) in
      pick (eqb d.passed 0) (record { past = n; stopped = d.answer; left = d.left; list = overwrite d.written list }) more

-- THE MEANING of a whole stream: each record takes a byte at least, so the bytes bound the steps
unfoldable pub run_of : List ℕ → List ℕ → Ran
run_of list s = run_from step_of (length s + 1) 0 fresh list s

-- the state came from a fresh one by records
pub data Came : State → Type 0 where
  start : Came fresh
  more : {m : State} (room : ℕ) (s : List ℕ) → Came m → Came (step_of m room s).left
