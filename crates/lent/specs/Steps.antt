-- What is left of a record in its order, by its own checks. Assumes nothing: these are definitions.
use Rattle.std.specs.Prelude.{List, ℕ}
use Rattle.meaning.specs.declared.Record.{Record}
use Rattle.meaning.specs.Hall.{State}
use Rattle.meaning.specs.Questions.{by_address}
use Rattle.meaning.specs.Records.{sort_of}
use Rattle.meaning.specs.Step.{refusal, taken}
use Rattle.meaning.specs.Box.{Left, left_by}

-- what a record of n bytes that is in its order leaves
unfoldable pub takes : State → List ℕ → ℕ → Record → Left
takes m list n r = left_by list (taken (by_address m) m n (sort_of r) (refusal m (sort_of r)))
