-- A step passes no byte, or some of those there are: so a run comes to its end. Assumes nothing.
use mathlib.Core.Bool.{Bool, true, false}
use mathlib.Core.Option.{Option, none, some}
use mathlib.Core.List.{List}
use Prim.Native.Nat.{ℕ, ◌≤◌}
use native.Mathlib.Omega.{arith}
use lib.Dec.{ltb}
use lib.ListN.{length}
use Rattle.meaning.specs.declared.Answer.{Answer}
use Rattle.meaning.specs.declared.Answer.TheVariants.{Refused}
use Rattle.meaning.specs.declared.Refusal.{Refusal}
use Rattle.meaning.specs.declared.Refusal.TheVariants.{ShortList}
use Rattle.meaning.specs.Search.{pick}
use Rattle.meaning.specs.Hall.{State}
use Rattle.meaning.specs.Records.{record_of, Read, read_of, Question, Sort, sort_of}
use Rattle.meaning.specs.Step.{list_room, turned_by, only, accepted, taken, step_for, step_with}
use Rattle.meaning.proofs.records.Begins.{Begins, nothing, unread, whole, begins}

pub passed_few : (ask : Question → Answer) (m : State) (room : ℕ) (s : List ℕ) → (step_with ask m room (read_of s)).passed ≤ length s
unfolding step_with step_for only taken accepted
passed_few ask m room s = go (ltb room list_room) (read_of s) (begins s)
  where
    last : (n : ℕ) (r : Sort) (o : Option Refusal) → n ≤ length s → (taken ask m n r o).passed ≤ length s
    last n r (some k) h = h
    last n r none h = h

    go : (a : Bool) (x : Read) → Begins s x → (pick a (only m 0 (Refused ShortList)) (step_for ask m x)).passed ≤ length s
    go true x b = omega arith
    go false x (nothing h) = omega arith
    go false x (unread k h) = omega arith
    go false x (whole h) = last _ (sort_of (record_of s)) (turned_by m (sort_of (record_of s))) h
