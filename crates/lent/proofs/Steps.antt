-- A step part by part: what a record that is in its order leaves, and the laws by which code's parts make up the contract of a step.
-- Assumes nothing.
use mathlib.Core.Path.{◌≡◌, refl, sym, ap, ◌∙◌, subst⁻¹}
use mathlib.Core.List.{List}
use mathlib.Core.Bool.{true, true≢false}
use mathlib.Core.Option.{Option, none, some}
use Prim.Native.Nat.{ℕ, ◌≤◌, ◌<◌}
use lib.ListN.{length}
use borrow.Author.Tests.{lt-ltb, le-ltb, eq-eqb, ne_eqb}
use Rattle.meaning.specs.declared.Answer.{Answer}
use Rattle.meaning.specs.declared.Answer.TheVariants.{End, Refused, Ok, Changed}
use Rattle.std.specs.Prelude.{Result, Ok as Okay, Err, ⊤}
use Rattle.meaning.specs.declared.Refusal.{Refusal}
use Rattle.meaning.specs.declared.Refusal.TheVariants.{ShortList, OutOfOrder}
use Rattle.meaning.specs.declared.Record.{Record}
use Rattle.meaning.specs.Hall.{stage, State}
use Rattle.meaning.specs.Labels.{labels_of}
use Rattle.meaning.specs.Working.{owners_of}
use Rattle.meaning.specs.Changes.{overwrite}
use Rattle.meaning.specs.Questions.{by_address}
use Rattle.meaning.specs.Records.{Read, no_more, got, read_of, SetUp, Update, Sort, set_up, update, question, sort_of, phase_of, is_question}
use Rattle.meaning.specs.Step.{list_room, when, checked, set_up_refusal, planned, with_plan, update_refusal, updated, node_of, refusal, turned_by, leaves, writes, only, answers, accepted, taken, step_for, step_with, step_of, reply_to}
use Rattle.meaning.specs.Run.{Came, more}
use Rattle.meaning.specs.Answers.{said}
use Rattle.meaning.specs.Box.{Held, Left, left, left_by, left_for, left_of}
use Rattle.meaning.proofs.base.Stages.{stage_once}
use Rattle.meaning.proofs.records.Steps.{question_keeps}
use Rattle.meaning.proofs.sound.Kept.{sound}
use Rattle.lent.specs.Owners.{Words, Listed}
use Rattle.lent.proofs.Labelled.{labels_are, owners_are, labels_still, owners_still}
use Rattle.lent.specs.Steps.{takes}

-- a check that gives no refusal has passed
pub unrefused : (r : Result ⊤ Refusal) → ((k : Refusal) → r ≡ Err k → ⊥) → checked r ≡ none
unfolding checked
unrefused (Okay x) n = refl
unrefused (Err k) n = absurd (n k refl)

-- ---- what is left, part by part

module _ (m m' : State) (label' owner' list list' s : List ℕ) (a : Answer) (n : ℕ) (e : left a n m' label' owner' list' ≡ left_of m list s) where
  pub left_said : said a ≡ said (step_of m (length list) s).answer
  unfolding left_of left_by
  left_said = ap (λ (x : Left). x.answer) e

  pub left_passed : n ≡ (step_of m (length list) s).passed
  unfolding left_of left_by
  left_passed = ap (λ (x : Left). x.passed) e

  pub left_state : m' ≡ (step_of m (length list) s).left
  unfolding left_of left_by
  left_state = ap (λ (x : Left). x.state) e

  pub left_list : list' ≡ overwrite (step_of m (length list) s).written list
  unfolding left_of left_by
  left_list = ap (λ (x : Left). x.list) e

  -- THE LAW: what a step leaves is held again, so the next step may be taken
  pub held_after : (label owner : List ℕ) → Held m label owner → Held m' label' owner'
  unfolding left_of left_by
  held_after label owner h = record {
    came = subst⁻¹ Came left_state (more (length list) s h.came);
    labels = ap (λ (x : Left). x.label) e ∙ ap labels_of (sym left_state);
    owners = ap (λ (x : Left). x.owner) e ∙ ap owners_of (sym left_state);
  }

-- ---- an answer alone leaves everything as it was

module _ (m : State) (label owner list : List ℕ) (h : Held m label owner) where
  left_only : (a : Answer) (n : ℕ) → left a n m label owner list ≡ left_by list (only m n a)
  unfolding left_by only overwrite
  left_only a n = rw (h.labels, h.owners)

  pub short_leaves : (x : Read) → length list < list_room → left (Refused ShortList) 0 m label owner list ≡ left_for m list x
  unfolding left_for step_with
  short_leaves x l = rw (lt-ltb (length list) list_room l) (left_only (Refused ShortList) 0)

  module _ (room : list_room ≤ length list) where
    pub end_leaves : left End 0 m label owner list ≡ left_for m list no_more
    unfolding left_for step_with step_for
    end_leaves = rw (le-ltb (length list) list_room room) (left_only End 0)

    pub unread_leaves : (k : Refusal) → left (Refused k) 0 m label owner list ≡ left_for m list (Err k)
    unfolding left_for step_with step_for
    unread_leaves k = rw (le-ltb (length list) list_room room) (left_only (Refused k) 0)

    pub disorder_leaves : (r : Record) (n : ℕ) → (m.plan.phase ≡ phase_of (sort_of r) → ⊥) → left (Refused OutOfOrder) n m label owner list ≡ left_for m list (got r n)
    unfolding left_for step_with step_for when taken
    disorder_leaves r n o = rw (le-ltb (length list) list_room room, ne_eqb (stage m.plan.phase) (stage (phase_of (sort_of r))) (λ e. o (stage_once e))) (left_only (Refused OutOfOrder) n)

    -- a question: the answer is all that it leaves
    pub reply_leaves : (r : Record) (n : ℕ) → is_question (sort_of r) ≡ true → left (reply_to m r) n m label owner list ≡ left_for m list (got r n)
    unfolding left_for step_with step_for taken only reply_to is_question
    reply_leaves r n q = rw (le-ltb (length list) list_room room, q) (go (sort_of r) q (turned_by m (sort_of r)))
      where
        go : (x : Sort) → is_question x ≡ true → (o : Option Refusal) → left (taken (by_address m) m 0 x o).answer n m label owner list ≡ left_by list (taken (by_address m) m n x o)
        go x e (some k) = left_only (Refused k) n
        go (set_up u) e none = absurd (true≢false (sym e))
        go (update u) e none = absurd (true≢false (sym e))
        go (question y) e none = unfold accepted answers left_by overwrite in let K = question_keeps m (by_address m) n y in rw (K.list, K.state, h.labels, h.owners)

-- a record in its order: what is left is what it takes
pub order_leaves : (m : State) (list : List ℕ) → list_room ≤ length list → (r : Record) (n : ℕ) → m.plan.phase ≡ phase_of (sort_of r) → takes m list n r ≡ left_for m list (got r n)
unfolding left_for takes step_with step_for when
order_leaves m list room r n o = rw (le-ltb (length list) list_room room, eq-eqb (stage m.plan.phase) (stage (phase_of (sort_of r))) (ap stage o))

-- and by the bytes that were read
pub read_leaves : (m : State) (list s : List ℕ) (x : Read) → read_of s ≡ x → left_for m list x ≡ left_of m list s
unfolding left_for left_of step_of
read_leaves m list s x e = ap (λ (y : Read). left_by list (step_with (by_address m) m (length list) y)) (sym e)

-- ---- a record in its order

module _ (m : State) (label owner list : List ℕ) (h : Held m label owner) (n : ℕ) (r : Record) where
  -- it is refused
  pub turned_takes : (k : Refusal) → refusal m (sort_of r) ≡ some k → left (Refused k) n m label owner list ≡ takes m list n r
  unfolding takes taken
  turned_takes k e = rw e (left_only m label owner list h (Refused k) n)

  -- it sets the hall up and is accepted: the labels and the owners stay
  pub opened_takes : (u : SetUp) → sort_of r ≡ set_up u → stage m.plan.phase < 2 → set_up_refusal m.plan u ≡ none
      → (m' : State) → m' ≡ with_plan m (planned m.plan u) → left Ok n m' label owner list ≡ takes m list n r
  unfolding takes refusal taken accepted answers leaves writes left_by overwrite
  opened_takes u sets before ok m' state =
      let S = sound m h.came in
      rw (sets, ok, state, labels_still m u S before, owners_still m u S before, h.labels, h.owners)

-- an update is accepted: by the tables in order and the list
pub update_takes : (m : State) (r : Record) (u : Update) → sort_of r ≡ update u → (label' owner' list list' : List ℕ) (k n : ℕ) → Words label'
    → Listed m (updated m u) (node_of m u) label' owner' list list' k → update_refusal m u ≡ none
    → (m' : State) → m' ≡ updated m u → left (Changed k) n m' label' owner' list' ≡ takes m list n r
unfolding takes refusal taken accepted answers leaves writes left_by
update_takes m r u is label' owner' list list' k n words L ok m' state =
    let W = L.whole in
    rw (is, ok, L.count, state, labels_are (updated m u) label' owner' W words, owners_are (updated m u) owner' W.sound W.owned, L.written)
