-- The box as it is lent: a hall with its tables. The state that it holds, the premise of a step, and what a step and a run leave.
-- Assumes nothing: these are definitions.
use Rattle.std.specs.Prelude.{◌≡◌, List, ℕ, length}
use Rattle.meaning.specs.declared.Answer.{Answer}
use Rattle.meaning.specs.declared.hall.Hall.{Hall}
use Rattle.meaning.specs.Hall.{Atoms, ipv4, State}
use Rattle.meaning.specs.Records.{Read}
use Rattle.meaning.specs.Labels.{labels_of}
use Rattle.meaning.specs.Working.{owners_of}
use Rattle.meaning.specs.Changes.{overwrite}
use Rattle.meaning.specs.Questions.{by_address}
use Rattle.meaning.specs.Step.{Done, step_with, step_of}
use Rattle.meaning.specs.Run.{Ran, run_of, Came}
use Rattle.meaning.specs.Answers.{Said, said}

-- the state that a hall holds, over IPv4 addresses
abbrev pub state_of : Hall → State
state_of h = record { width = ipv4; plan = h.plan; rule = h.rule; atoms = h.atoms }

-- the state came from a fresh one by records, and these are its labels and its owners
pub record Held (m : State) (label owner : List ℕ) : Type 0 where
  pub came : Came m
  pub labels : label ≡ labels_of m
  pub owners : owner ≡ owners_of m

-- THE PREMISE: the hall came from a fresh one by records, with its labels and its owners
abbrev pub HeldBy : Hall → Type 0
HeldBy h = Held (state_of h) h.label h.owner

-- THE PREMISE where only the atoms are lent: they are those of such a hall
pub record AtomsHeld (atoms : Atoms) : Type 0 where
  pub hall : Hall
  pub held : HeldBy hall
  pub is : hall.atoms ≡ atoms

-- what a step leaves: the answer, the bytes passed, the state, the labels, the owners and the lent list
pub record Left : Type 0 where
  pub answer : Said
  pub passed : ℕ
  pub state : State
  pub label : List ℕ
  pub owner : List ℕ
  pub list : List ℕ

abbrev pub left : Answer → ℕ → State → List ℕ → List ℕ → List ℕ → Left
left a n m label owner list = record { answer = said a; passed = n; state = m; label = label; owner = owner; list = list }

-- the same of a hall
abbrev pub left_in : Answer → ℕ → Hall → List ℕ → Left
left_in a n h list = left a n (state_of h) h.label h.owner list

-- a lent list and a step that is done: what is left
unfoldable pub left_by : List ℕ → Done → Left
left_by list d = left d.answer d.passed d.left (labels_of d.left) (owners_of d.left) (overwrite d.written list)

-- THE CONTRACT of a step by what was read: what is left is this, and nothing else
unfoldable pub left_for : State → List ℕ → Read → Left
left_for m list x = left_by list (step_with (by_address m) m (length list) x)

-- THE CONTRACT of a step on the bytes s: the same by what they begin with
unfoldable pub left_of : State → List ℕ → List ℕ → Left
left_of m list s = left_by list (step_of m (length list) s)

-- THE CONTRACT of a run over the bytes s: the count of records passed stands for the bytes
unfoldable pub ran_by : Ran → Left
ran_by r = left r.stopped r.past r.left (labels_of r.left) (owners_of r.left) r.list

unfoldable pub ran_of : List ℕ → List ℕ → Left
ran_of list s = ran_by (run_of list s)
