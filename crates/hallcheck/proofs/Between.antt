-- The loop over the records: what holds before each, and what a record leaves. Assumes nothing.
use mathlib.Core.Path.{◌≡◌, refl, sym, ◌∙◌, subst}
use mathlib.Core.List.{List}
use Prim.Native.Nat.{ℕ, ◌+◌, ◌-◌, ◌*◌, ◌≤◌}
use native.Mathlib.Omega.{arith}
use lib.ListN.{length, take, drop, length-drop}
use lib.Seq.{length-take-le}
use Rattle.meaning.specs.declared.Answer.{Answer}
use Rattle.meaning.specs.declared.Answer.TheVariants.{End, Refused, Ok, Changed, Loop, NoLoop, Went, Yes, No, Tally}
use Rattle.meaning.specs.Hall.{State, fresh}
use Rattle.meaning.specs.Labels.{labels_of}
use Rattle.meaning.specs.Working.{owners_of}
use Rattle.meaning.specs.Run.{start}
use Rattle.meaning.specs.Questions.{by_address}
use Rattle.meaning.specs.Changes.{entry_words}
use Rattle.meaning.specs.Step.{list_room, step_of}
use Rattle.meaning.specs.Box.{Held, left, left_of}
use Rattle.meaning.proofs.records.Passed.{passed_few}
use Rattle.lent.proofs.Steps.{left_said, left_passed, held_after}
use Rattle.meaning.proofs.records.Said.{said_once}
use Rattle.meaning.proofs.document.Runs.{lists}
use Rattle.hallcheck.specs.Entries.{HasEntries, entries_of}

-- before a record: the box came from a fresh one, both places lie within, and there is room in the list
pub record Between (bytes : List ℕ) (m : State) (label owner list : List ℕ) (at place : ℕ) : Type 0 where
  pub held : Held m label owner
  pub inside : at ≤ length bytes
  pub slow : place ≤ at
  pub entries : list_room ≤ length list

-- a fresh box
pub held_fresh : (m : State) (label owner : List ℕ) → m ≡ fresh → label ≡ labels_of fresh → owner ≡ owners_of fresh → Held m label owner
held_fresh m label owner e l o = subst (λ (x : State). Held x label owner) (sym e) (record { came = start; labels = l; owners = o })

-- the rest of the bytes is no longer than what is left of them
rest_length : (bytes : List ℕ) (at : ℕ) → length (take (length bytes - at) (drop at bytes)) ≡ length bytes - at
rest_length bytes at = length-take-le (length bytes - at) (drop at bytes) (omega (arith, length-drop at bytes))

module _ (bytes : List ℕ) (m : State) (label owner list : List ℕ) (at place : ℕ) (g : Between bytes m label owner list at place)
    (a : Answer) (n : ℕ) (m' : State) (label' owner' list' : List ℕ)
    (e : left a n m' label' owner' list' ≡ left_of m list (take (length bytes - at) (drop at bytes))) (k : length list' ≡ length list) where
  -- the entries that its answer counts stand in the list
  pub listed : HasEntries a list'
  unfolding entries_of
  listed = record { entries = go a refl }
    where
      s : List ℕ
      s = take (length bytes - at) (drop at bytes)

      same : a ≡ (step_of m (length list) s).answer
      same = said_once a (step_of m (length list) s).answer (left_said m m' label' owner' list list' s a n e)

      go : (x : Answer) → a ≡ x → entries_of x * entry_words ≤ length list'
      go (Changed j) q = omega (arith, (lists m (length list) s g.held.came j (sym same ∙ q)).few, g.entries)
      go End q = omega arith
      go (Refused j) q = omega arith
      go Ok q = omega arith
      go (Loop b v) q = omega arith
      go NoLoop q = omega arith
      go (Went f) q = omega arith
      go (Yes b) q = omega arith
      go No q = omega arith
      go (Tally o l r) q = omega arith

  -- the next record
  pub goes : (n ≡ 0 → ⊥) → Between bytes m' label' owner' list' (at + n) (place + 1)
  unfolding step_of
  goes z =
      let s = take (length bytes - at) (drop at bytes) in
      let few : n ≤ length bytes - at = omega (arith, left_passed m m' label' owner' list list' s a n e, passed_few (by_address m) m (length list) s, rest_length bytes at) in
      record {
        held = held_after m m' label' owner' list list' s a n e label owner g.held;
        inside = omega (arith, g.inside);
        slow = omega (arith, g.slow);
        entries = omega (arith, g.entries);
      }
