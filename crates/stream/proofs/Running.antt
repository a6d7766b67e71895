-- A run step by step: what is left to run, over the rest of the bytes, is the run. Assumes nothing.
use mathlib.Core.Path.{◌≡◌, sym, ap, ◌∙◌, subst}
use mathlib.Core.List.{List}
use Prim.Native.Nat.{ℕ, zero, suc, ◌+◌, ◌-◌, ◌≤◌}
use native.Mathlib.Omega.{arith}
use lib.ListN.{length, take, drop, length-drop}
use borrow.Author.Tests.{ne_eqb}
use lib.Dec.{eqb}
use lib.Seq.{take_all, drop-drop}
use Rattle.meaning.specs.declared.Answer.{Answer}
use Rattle.meaning.specs.Search.{pick}
use Rattle.meaning.specs.Hall.{State, fresh}
use Rattle.meaning.specs.Labels.{labels_of}
use Rattle.meaning.specs.Working.{owners_of}
use Rattle.meaning.specs.Changes.{overwrite}
use Rattle.meaning.specs.Questions.{by_address}
use Rattle.meaning.specs.Step.{Done, step_of}
use Rattle.meaning.specs.Run.{Ran, run_from, run_of, start}
use Rattle.meaning.specs.Box.{Held, Left, left, left_by, left_of, ran_by, ran_of}
use Rattle.meaning.proofs.records.Passed.{passed_few}
use Rattle.lent.proofs.Steps.{left_passed, left_state, left_list, held_after}

-- after some records, at a place of the bytes: the box is held, and what is left to run is the run
pub record Running (bytes list₀ : List ℕ) (m : State) (label owner list : List ℕ) (at past : ℕ) : Type 0 where
  pub held : Held m label owner
  pub inside : at ≤ length bytes
  pub slow : past ≤ at
  pub rest : run_from step_of (suc (length bytes - past)) past m list (drop at bytes) ≡ run_of list₀ bytes

-- the rest of the bytes, as the part of a slice that ends with it
pub whole_rest : (l : List ℕ) (at : ℕ) → take (length l - at) (drop at l) ≡ drop at l
whole_rest l at = take_all (length l - at) (drop at l) (rw length-drop (omega arith))

pub running_start : (bytes list : List ℕ) (m : State) (label owner : List ℕ) → m ≡ fresh → label ≡ labels_of fresh → owner ≡ owners_of fresh
    → Running bytes list m label owner list 0 0
unfolding run_of
running_start bytes list m label owner e l o = let all : suc (length bytes - 0) ≡ length bytes + 1 = omega arith in record {
  held = subst (λ (x : State). Held x label owner) (sym e) (record { came = start; labels = l; owners = o });
  inside = omega arith;
  slow = omega arith;
  rest = ap (λ (x : State). run_from step_of (suc (length bytes - 0)) 0 x list bytes) e ∙ ap (λ (k : ℕ). run_from step_of k 0 fresh list bytes) all;
}

module _ (bytes list₀ : List ℕ) (m : State) (label owner list : List ℕ) (at past : ℕ) (r : Running bytes list₀ m label owner list at past)
    (a : Answer) (n : ℕ) (m' : State) (label' owner' list' s : List ℕ) (e₀ : left a n m' label' owner' list' ≡ left_of m list s) (is : s ≡ drop at bytes) where
  e : left a n m' label' owner' list' ≡ left_of m list (drop at bytes)
  e = e₀ ∙ ap (left_of m list) is

  d : Done
  d = step_of m (length list) (drop at bytes)

  on : Ran
  unfolding d
  on = run_from step_of (length bytes - past) (past + 1) d.left (overwrite d.written list) (drop d.passed (drop at bytes))

  here : Ran
  unfolding d
  here = record { past = past; stopped = d.answer; left = d.left; list = overwrite d.written list }

  goes : pick (eqb d.passed 0) here on ≡ run_of list₀ bytes
  unfolding run_from d on here
  goes = r.rest

  passes : n ≡ d.passed
  unfolding d
  passes = left_passed m m' label' owner' list list' (drop at bytes) a n e

  -- it stops where no byte is passed
  pub running_stops : n ≡ 0 → left a past m' label' owner' list' ≡ ran_of list₀ bytes
  unfolding left_of left_by ran_of ran_by d on here
  running_stops z =
      ap (λ (x : Left). record { answer = x.answer; passed = past; state = x.state; label = x.label; owner = x.owner; list = x.list }) e
      ∙ ap ran_by (ap (λ (x : ℕ). pick (eqb x 0) here on) (sym z ∙ passes) ∙ goes)

  -- else it goes on behind the record
  pub running_goes : (n ≡ 0 → ⊥) → Running bytes list₀ m' label' owner' list' (at + n) (past + 1)
  unfolding step_of d on here
  running_goes z = record {
    held = held_after m m' label' owner' list list' (drop at bytes) a n e label owner r.held;
    inside = omega (arith, few, r.inside);
    slow = omega (arith, r.slow);
    rest =
        ap (λ (k : ℕ). run_from step_of k (past + 1) m' list' (drop (at + n) bytes)) one
        ∙ ap (λ (x : State). run_from step_of (length bytes - past) (past + 1) x list' (drop (at + n) bytes)) (left_state m m' label' owner' list list' (drop at bytes) a n e)
        ∙ ap (λ (x : List ℕ). run_from step_of (length bytes - past) (past + 1) d.left x (drop (at + n) bytes)) (left_list m m' label' owner' list list' (drop at bytes) a n e)
        ∙ ap (run_from step_of (length bytes - past) (past + 1) d.left (overwrite d.written list)) behind
        ∙ sym (moved d.passed passes) ∙ goes;
  }
    where
      few : n ≤ length bytes - at
      few = omega (arith, passes, passed_few (by_address m) m (length list) (drop at bytes), length-drop at bytes)

      one : suc (length bytes - (past + 1)) ≡ length bytes - past
      one = omega (arith, few, r.inside, r.slow)

      behind : drop (at + n) bytes ≡ drop d.passed (drop at bytes)
      behind = ap (λ (x : ℕ). drop (at + x) bytes) passes ∙ sym (drop-drop d.passed at bytes)

      moved : (p : ℕ) → n ≡ p → pick (eqb p 0) here on ≡ on
      moved zero f = absurd (z f)
      moved (suc p) f = rw (ne_eqb (suc p) 0 (λ q. omega arith))
