-- What the checks of a link record say, and what a set-up record leaves of the plan. Assumes nothing: these are definitions.
use Rattle.std.specs.Prelude.{◌≡◌, ℕ, ◌+◌, ◌*◌, Result, Ok, Err, ⊤}
use Rattle.std.proofs.Math.Option.{none, some}
use Rattle.meaning.specs.declared.hall.End.{End}
use Rattle.meaning.specs.declared.Refusal.{Refusal}
use Rattle.meaning.specs.declared.Answer.{Answer}
use Rattle.meaning.specs.declared.Answer.TheVariants.{Ok as Fine, Refused}
use Rattle.meaning.specs.declared.hall.Plan.{Plan}
use Rattle.meaning.specs.Hall.{end_number}
use Rattle.meaning.specs.Records.{SetUp, link}
use Rattle.meaning.specs.Step.{set_up_refusal, planned}

-- the link passes, and this is its end; or it is refused as its checks say
abbrev pub IsChecked : Plan → ℕ → ℕ → ℕ → Result End Refusal → Type 0
IsChecked p source code number (Ok end) = (set_up_refusal p (link source code number) ≡ none) × (end_number end ≡ code * 256 + number)
IsChecked p source code number (Err k) = set_up_refusal p (link source code number) ≡ some k

-- the plan p becomes q by a set-up record that passes its checks, and stays where it is refused
abbrev pub SetsUp : Plan → Plan → SetUp → Result ⊤ Refusal → Type 0
SetsUp p q u (Ok x) = (set_up_refusal p u ≡ none) × (q ≡ planned p u)
SetsUp p q u (Err k) = (set_up_refusal p u ≡ some k) × (q ≡ p)

-- what it is answered with
abbrev pub told : Result ⊤ Refusal → Answer
told (Ok x) = Fine
told (Err k) = Refused k
