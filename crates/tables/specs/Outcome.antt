-- What an update comes to, as the step that answers it. Assumes nothing: these are definitions.
use Rattle.std.specs.Prelude.{List, ℕ, ltb, eqb, not, length, Result, Ok, Err}
use Rattle.std.proofs.Math.Option.{Option, none}
use Rattle.meaning.specs.declared.Answer.{Answer}
use Rattle.meaning.specs.declared.Answer.TheVariants.{Changed, Refused}
use Rattle.meaning.specs.declared.Refusal.{Refusal}
use Rattle.meaning.specs.declared.Refusal.TheVariants.{ShortList, OutOfOrder}
use Rattle.meaning.specs.declared.hall.Phase.{Phase}
use Rattle.meaning.specs.declared.hall.Phase.TheVariants.{Closed}
use Rattle.meaning.specs.Search.{pick}
use Rattle.meaning.specs.Hall.{stage}
use Rattle.meaning.specs.Answers.{number_of}
use Rattle.meaning.specs.Step.{list_room, when}

-- why any update is refused: the list is too short, or the hall is not closed
unfoldable pub unready : Phase → List ℕ → Option Refusal
unready p list = when (ltb (length list) list_room) ShortList (when (not (eqb (stage p) (stage Closed))) OutOfOrder none)

-- the answer: how many entries are listed, or why it is refused
unfoldable pub told : Result ℕ Refusal → Answer
told (Ok n) = Changed n
told (Err why) = Refused why

-- how many of a record's n bytes are passed: none where the list is too short
unfoldable pub passed_of : ℕ → Result ℕ Refusal → ℕ
passed_of n (Ok k) = n
passed_of n (Err why) = pick (eqb (number_of why) 0) 0 n
