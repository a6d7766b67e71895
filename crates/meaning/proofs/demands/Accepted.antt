-- A step of two states side by side, and what an accepted record was and stored. Assumes nothing.
use mathlib.Core.Path.{◌≡◌, refl, sym, ap, ◌∙◌}
use mathlib.Core.Logic.{◌↔◌, ◌⊎◌, inl, inr}
use mathlib.Core.Bool.{Bool, true, false}
use mathlib.Core.Option.{Option, none, some}
use mathlib.Core.List.{List, [], ◌∷◌}
use Prim.Native.Nat.{ℕ, ◌≤◌, ◌<◌}
use native.Mathlib.Omega.{arith}
use lib.Dec.{ltb}
use lib.ListN.{length, set}
use borrow.Author.Tests.{eqb-true, eq-eqb, lt-ltb, le-ltb, not-false}
use Rattle.meaning.specs.declared.Answer.{Answer}
use Rattle.meaning.specs.declared.Answer.TheVariants.{End, Refused}
use Rattle.meaning.specs.declared.Refusal.{Refusal}
use Rattle.meaning.specs.declared.Refusal.TheVariants.{ShortList}
use Rattle.meaning.specs.declared.Record.{Record}
use Rattle.meaning.specs.Search.{pick}
use Rattle.meaning.specs.declared.hall.Phase.TheVariants.{Closed}
use Rattle.meaning.specs.Hall.{State}
use Rattle.meaning.specs.Rule.{rule_word}
use Rattle.meaning.specs.Atoms.{with_cut}
use Rattle.meaning.specs.Questions.{by_address}
use Rattle.meaning.specs.Records.{record_of, Read, no_more, read_of, Update, insert, remove, Question, Sort, update, question, sort_of, phase_of}
use Rattle.meaning.specs.Step.{list_room, Done, update_refusal, with_rule, inserted, updated, node_of, changes, question_refusal, refusal, turned_by, leaves, writes, only, answers, accepted, taken, step_for, step_with, step_of}
use Rattle.meaning.specs.declared.Record.TheVariants.{Close}
use Rattle.meaning.specs.Changes.{entries_at}
use Rattle.meaning.specs.Run.{Came}
use Rattle.meaning.proofs.base.Stages.{stage_once}
use Rattle.meaning.proofs.base.Order.{clash, le_or_lt}
use Rattle.meaning.proofs.records.Checks.{when_none}
use Rattle.meaning.proofs.records.Steps.{Stepped, short, ended, unread, turned, took, stepped}
use Rattle.meaning.proofs.records.Begins.{Begins, nothing, unread as without, whole, begins}
use Rattle.meaning.proofs.document.Runs.{at_end, stays}
use Rattle.meaning.proofs.demands.Demands.{refused_by, Asks, rule_of, then, Accepts}
use Rattle.meaning.proofs.records.Fields.{FitsUpdate, Fits, fits}
use Rattle.meaning.proofs.sound.Sound.{width_is}

-- the record that the bytes s begin with, by its sort
abbrev pub sorted : List ℕ → Sort
sorted s = sort_of (record_of s)

-- ---- two steps side by side

-- two tests that hold together are the same
same_test : (i j k : ℕ) → ((i < k) ↔ (j < k)) → ltb i k ≡ ltb j k
same_test i j k f = go (le_or_lt k i) (le_or_lt k j)
  where
    go : (k ≤ i) ⊎ (i < k) → (k ≤ j) ⊎ (j < k) → ltb i k ≡ ltb j k
    go (inl h) (inl g) = le-ltb i k h ∙ sym (le-ltb j k g)
    go (inl h) (inr g) = absurd (omega (arith, f.1 g))
    go (inr h) (inl g) = absurd (omega (arith, f.0 h))
    go (inr h) (inr g) = lt-ltb i k h ∙ sym (lt-ltb j k g)

-- of the room that is lent a step sees only whether it is enough
pub any_room : (m : State) (room room' : ℕ) (s : List ℕ) → ((room < list_room) ↔ (room' < list_room)) → step_of m room s ≡ step_of m room' s
unfolding step_of step_with
any_room m room room' s f = rw (same_test room room' list_room f)

-- the answers of a step that leaves all as it was before a record is taken
pub data Unmoved : Answer → Type 0 where
  no_byte : Unmoved End
  refused : (k : Refusal) → Unmoved (Refused k)

-- where a record is turned away alike, what holds of both refusals and of both acceptances holds of both steps
module _ (R : Done → Done → Type 0) (m n : State) (room : ℕ) (s : List ℕ) where
  pub both_step : ((k : ℕ) (a : Answer) → Unmoved a → R (only m k a) (only n k a)) → turned_by m (sorted s) ≡ turned_by n (sorted s)
      → ((k : ℕ) → turned_by n (sorted s) ≡ none → R (accepted (by_address m) m k (sorted s)) (accepted (by_address n) n k (sorted s))) → R (step_of m room s) (step_of n room s)
  unfolding step_of step_with step_for taken
  both_step f e g = go (ltb room list_room) (read_of s) (begins s)
    where
      last : (k : ℕ) (o : Option Refusal) → turned_by n (sorted s) ≡ o → R (taken (by_address m) m k (sorted s) o) (taken (by_address n) n k (sorted s) o)
      last k (some j) q = f k (Refused j) (refused j)
      last k none q = g k q

      go : (a : Bool) (x : Read) → Begins s x
          → R (pick a (only m 0 (Refused ShortList)) (step_for (by_address m) m x)) (pick a (only n 0 (Refused ShortList)) (step_for (by_address n) n x))
      go true x b = f 0 (Refused ShortList) (refused ShortList)
      go false x (nothing h) = f 0 End no_byte
      go false x (without k h) = f 0 (Refused k) (refused k)
      go false x (whole h) = rw e (last _ _ refl)

-- ---- "end"

reads_nothing : (s : List ℕ) → read_of s ≡ no_more → length s ≡ 0
reads_nothing s e = go (read_of s) (begins s) e
  where
    go : (x : Read) → Begins s x → x ≡ no_more → length s ≡ 0
    go x (nothing h) e = h
    go x (without k h) e = clash cc
    go x (whole h) e = clash cc

-- THE LAW: the answer is "end" exactly when the list is long enough and no byte is left
pub end_is : (m : State) (room : ℕ) (s : List ℕ) → ((step_of m room s).answer ≡ End) ↔ ((list_room ≤ room) × (length s ≡ 0))
unfolding step_of step_with step_for read_of only accepted
end_is m room s = (λ e. go _ (stepped _ m room s) refl e, λ h. rw (le-ltb room list_room h.0, eq-eqb (length s) 0 h.1))
  where
    go : (d : Done) → Stepped (by_address m) m room s d → step_with (by_address m) m room (read_of s) ≡ d → d.answer ≡ End → (list_room ≤ room) × (length s ≡ 0)
    go d (short h) q e = clash cc
    go d (ended h r) q e = (h, reads_nothing s r)
    go d (unread k h r o) q e = clash cc
    go d (turned r n k h g pos f b) q e = clash cc
    go d (took r n h g pos f) q e = let none : n ≡ 0 = sym (ap (λ (d : Done). d.passed) q) ∙ (stays m room s).1 (rw (q, e) at_end) in absurd (omega arith)

-- ---- an accepted record

-- it passed every check, and the step d is that of the record
pub record Took (m : State) (s : List ℕ) (d : Done) : Type 0 where
  pub bytes : ℕ
  pub phase : m.plan.phase ≡ phase_of (sorted s)
  pub passes : refusal m (sorted s) ≡ none
  pub is : d ≡ accepted (by_address m) m bytes (sorted s)

module _ (m : State) (room : ℕ) (s : List ℕ) where
  -- what is neither refused nor "end" is accepted
  pub accepts : refused_by (step_of m room s).answer ≡ none → ((step_of m room s).answer ≡ End → ⊥) → Took m s (step_of m room s)
  unfolding only refused_by
  accepts = both_step (λ d e. refused_by d.answer ≡ none → (d.answer ≡ End → ⊥) → Took m s d) m m room s unmoved refl passed
    where
      unmoved : (k : ℕ) (a : Answer) → Unmoved a → refused_by a ≡ none → (a ≡ End → ⊥) → Took m s (only m k a)
      unmoved k a no_byte e f = absurd (f refl)
      unmoved k a (refused j) e f = clash cc

      passed : (k : ℕ) → turned_by m (sorted s) ≡ none → refused_by (accepted (by_address m) m k (sorted s)).answer ≡ none
          → ((accepted (by_address m) m k (sorted s)).answer ≡ End → ⊥) → Took m s (accepted (by_address m) m k (sorted s))
      passed k q e f = let y = when_none _ _ _ q in record { bytes = k; phase = stage_once (eqb-true _ _ (not-false _ y.0)); passes = y.1; is = refl }

-- ---- a question that is not refused

empty_close : (s : List ℕ) → length s ≡ 0 → record_of s ≡ Close
unfolding record_of
empty_close [] e = refl
empty_close (x ∷ s) e = absurd (omega arith)

module _ (m : State) (room : ℕ) (s : List ℕ) (r : Record) (A : Asks m room s r) (q : Question) (asks : sort_of r ≡ question q) where
  sorted_is : sorted s ≡ question q
  sorted_is = ap sort_of A.record_is ∙ asks

  took_question : Took m s (step_of m room s)
  unfolding sort_of
  took_question = accepts m room s A.taken (λ e. clash (cc (sorted_is, ap sort_of (empty_close s ((end_is m room s).0 e).1))))

  pub asked_passes : question_refusal m.plan q ≡ none
  unfolding refusal
  asked_passes = rw sorted_is at took_question.passes

  -- THE LAW: it is answered by what the definitions of the questions say
  pub asked_is : (step_of m room s).answer ≡ by_address m q
  unfolding accepted answers
  asked_is = ap (λ (d : Done). d.answer) took_question.is ∙ ap (answers (by_address m) m) sorted_is

-- ---- an accepted update

module _ (m : State) (room : ℕ) (s : List ℕ) (i : ℕ) (A : Accepts m room s i) where
  took_it : Took m s (step_of m room s)
  took_it = accepts m room s (ap refused_by A.ok ∙ (unfold refused_by in refl)) (λ e. clash (cc A.ok))

  pub closed_hall : m.plan.phase ≡ Closed
  unfolding phase_of
  closed_hall = took_it.phase ∙ ap phase_of A.record_is

  pub passes : update_refusal m A.sent ≡ none
  unfolding refusal
  passes = rw A.record_is at took_it.passes

  pub fit : Came m → FitsUpdate m.width A.sent
  unfolding Fits
  fit c = rw (width_is c) (rw A.record_is at (fits s))

  pub left_is : then m room s ≡ updated m A.sent
  unfolding accepted leaves
  left_is = ap (λ (d : Done). d.left) took_it.is ∙ ap (leaves m) A.record_is

  pub written_is : (step_of m room s).written ≡ entries_at m (updated m A.sent) (node_of m A.sent) (changes m A.sent)
  unfolding accepted writes
  written_is = ap (λ (d : Done). d.written) took_it.is ∙ ap (writes m) A.record_is

-- ---- what it stores

-- the word that its rule has then, over addresses of a width
unfoldable pub stored_by : ℕ → Update → ℕ
stored_by width (insert r l p n t) = rule_word width l p n t
stored_by width (remove r) = 0

-- it stores that word and keeps the rest
pub record Stores (m n : State) (i w : ℕ) : Type 0 where
  pub width : n.width ≡ m.width
  pub plan : n.plan ≡ m.plan
  pub rule : n.rule ≡ set m.rule i w

stores_one : (m : State) (u : Update) → Stores m (updated m u) (rule_of u) (stored_by m.width u)
unfolding rule_of stored_by updated inserted with_rule with_cut
stores_one m (insert r l p n t) = record { width = refl; plan = refl; rule = refl }
stores_one m (remove r) = record { width = refl; plan = refl; rule = refl }

-- THE LAW
pub stores : (m : State) (room : ℕ) (s : List ℕ) (i : ℕ) (A : Accepts m room s i) → Stores m (then m room s) i (stored_by m.width A.sent)
stores m room s i A = rw (left_is m room s i A, ← A.names) (stores_one m A.sent)

-- the bytes say which update it is
pub same_sent : {m n : State} {room room' : ℕ} {s : List ℕ} {i : ℕ} (A : Accepts m room s i) (B : Accepts n room' s i) → A.sent ≡ B.sent
same_sent A B = let e : update A.sent ≡ update B.sent = sym A.record_is ∙ B.record_is in cc
