-- What one record does, by its sort: whether it is turned away and with which number, what it answers, what it leaves and what it writes.
-- Assumes nothing: these are definitions.
use Rattle.std.specs.Prelude.{List, [], Bool, not, ◌&&◌, ◌||◌, ℕ, ◌+◌, ◌*◌, ◌%◌, leb, ltb, eqb, length, set}
use Rattle.std.proofs.Math.Option.{Option, none, some}
use Rattle.meaning.specs.declared.Record.{Record}
use Rattle.std.specs.Prelude.{Result, Ok as right, Err as wrong, Some, None, ⊤}
use Rattle.meaning.specs.declared.Refusal.{Refusal}
use Rattle.meaning.specs.declared.Refusal.TheVariants.{ShortList, OutOfOrder, NoNode, NoLink, LinksFull, NoEnd, NoRule, RuleLive, RuleNotLive, NoPrefix, Tie, CutsFull}
use Rattle.meaning.specs.declared.hall.Phase.TheVariants.{Open, Closed}
use Rattle.meaning.specs.declared.Answer.{Answer}
use Rattle.meaning.specs.declared.Answer.TheVariants.{End, Refused, Ok, Changed}
use Rattle.meaning.specs.Search.{pick, any_below}
use Rattle.meaning.specs.Hall.{Plan, stage, State, source_of, link_word}
use Rattle.meaning.specs.Rule.{span, rule_word, live, rank, lower, upper, overlap}
use Rattle.meaning.specs.Winner.{rule_at, node_for}
use Rattle.meaning.specs.Atoms.{with_cut, is_boundary}
use Rattle.meaning.specs.Changes.{entry_words, changed_places, entries_at}
use Rattle.meaning.specs.Questions.{by_address}
use Rattle.meaning.specs.Records.{Read, got, read_of, SetUp, hall, link, close, Update, insert, remove, Question, loop, fate, reach, tally, Sort, set_up, update, question, sort_of, phase_of, is_question}

-- a refusal where the test holds, else what the next checks say
unfoldable pub when : Bool → Refusal → Option Refusal → Option Refusal
when t k o = pick t (some k) o

-- a check's outcome as such a refusal
unfoldable pub checked : Result ⊤ Refusal → Option Refusal
checked (right x) = none
checked (wrong k) = some k

-- ---- a set-up record changes the plan

-- the refusal of one in its order, by its kind's checks in their order; or none
unfoldable pub set_up_refusal : Plan → SetUp → Option Refusal
set_up_refusal p (hall n) = when (eqb n 0 || ltb 16 n) NoNode none
set_up_refusal p (link s c e) =
    when (leb 64 p.links) LinksFull
    (when (leb p.nodes s) NoNode
    (when (ltb 2 c || (eqb c 2 && not (eqb e 0))) NoEnd
    (when (eqb c 0 && leb p.nodes e) NoNode none)))
set_up_refusal p close = none

-- the plan that it leaves, and the state with that plan
unfoldable pub planned : Plan → SetUp → Plan
planned p (hall n) = record { phase = Open; nodes = n; links = p.links; link = p.link }
planned p (link s c e) = record { phase = p.phase; nodes = p.nodes; links = p.links + 1; link = set p.link p.links (link_word s (c * 256 + e)) }
planned p close = record { phase = Closed; nodes = p.nodes; links = p.links; link = p.link }

abbrev pub with_plan : State → Plan → State
with_plan m p = record { width = m.width; plan = p; rule = m.rule; atoms = m.atoms }

-- ---- an update changes the rules, and an insert the atoms

-- 11: a one bit in the prefix below its length
unfoldable pub ragged : ℕ → ℕ → ℕ → Bool
ragged width p n = not (eqb (p % span width n) 0)

-- 12: a live rule at the same node overlaps with equal priority
unfoldable pub clashes : State → ℕ → Bool
clashes m w =
    any_below 256 (λ i.
    live (rule_at m i)
    && (eqb (node_for m (rule_at m i)) (node_for m w) && (eqb (rank m.width (rule_at m i)) (rank m.width w) && overlap m.width (rule_at m i) w)))

-- 13: how many boundaries a rule adds
unfoldable pub added : State → ℕ → ℕ
added m w = pick (is_boundary m (lower m.width w)) 0 1 + pick (is_boundary m (upper m.width w)) 0 1

-- the refusal of one in its order, by its kind's checks in their order; or none
unfoldable pub update_refusal : State → Update → Option Refusal
update_refusal m (insert r l p n t) =
    when (ltb 255 r) NoRule
    (when (live (rule_at m r)) RuleLive
    (when (leb m.plan.links l) NoLink
    (when (ltb m.width n || ragged m.width p n) NoPrefix
    (when (clashes m (rule_word m.width l p n t)) Tie
    (when (ltb 512 (m.atoms.count + added m (rule_word m.width l p n t))) CutsFull none)))))
update_refusal m (remove r) = when (ltb 255 r) NoRule (when (not (live (rule_at m r))) RuleNotLive none)

-- rule r has the word w
unfoldable pub with_rule : State → ℕ → ℕ → State
with_rule m r w = record { width = m.width; plan = m.plan; rule = set m.rule r w; atoms = m.atoms }

-- rule r is taken in with the word w: its lower end is made a boundary, then its upper end
unfoldable pub inserted : State → ℕ → ℕ → State
inserted m r w = with_rule (with_cut (with_cut m (lower m.width w)) (upper m.width w)) r w

-- the state that an update leaves
unfoldable pub updated : State → Update → State
updated m (insert r l p n t) = inserted m r (rule_word m.width l p n t)
updated m (remove r) = with_rule m r 0

-- the node of the rule that an update names
unfoldable pub node_of : State → Update → ℕ
node_of m (insert r l p n t) = source_of m l
node_of m (remove r) = node_for m (rule_at m r)

-- the places whose winner at node v differs between two states, and those that an update lists
unfoldable pub listed : State → State → ℕ → List ℕ
listed m n v = changed_places m n v n.atoms.count

abbrev pub changes : State → Update → List ℕ
changes m u = listed m (updated m u) (node_of m u)

-- ---- a question changes nothing

-- the refusal of one in its order, by its kind's checks in their order; or none
unfoldable pub question_refusal : Plan → Question → Option Refusal
question_refusal p loop = none
question_refusal p (fate v a) = when (leb p.nodes v) NoNode none
question_refusal p (reach v w) = when (leb p.nodes v) NoNode (when (leb p.nodes w) NoNode none)
question_refusal p (tally v) = when (leb p.nodes v) NoNode none

-- ---- a record of any sort

unfoldable pub refusal : State → Sort → Option Refusal
refusal m (set_up u) = set_up_refusal m.plan u
refusal m (update u) = update_refusal m u
refusal m (question q) = question_refusal m.plan q

-- the refusal of a record: out of its order, else by its kind's own checks; or none
abbrev pub turned_by : State → Sort → Option Refusal
turned_by m r = when (not (eqb (stage m.plan.phase) (stage (phase_of r)))) OutOfOrder (refusal m r)

-- what an accepted record leaves, and what it writes
unfoldable pub leaves : State → Sort → State
leaves m (set_up u) = with_plan m (planned m.plan u)
leaves m (update u) = updated m u
leaves m (question q) = m

unfoldable pub writes : State → Sort → List ℕ
writes m (set_up u) = []
writes m (update u) = entries_at m (updated m u) (node_of m u) (changes m u)
writes m (question q) = []

-- ---- one step

-- a list must have room for an entry of every atom
abbrev pub list_room : ℕ
list_room = 512 * entry_words

-- the answer, how many bytes it goes past, the state left, and the words written at the front of the lent list
pub record Done : Type 0 where
  pub answer : Answer
  pub passed : ℕ
  pub left : State
  pub written : List ℕ

-- an answer that changes and writes nothing
unfoldable pub only : State → ℕ → Answer → Done
only m n a = record { answer = a; passed = n; left = m; written = [] }

-- over any way to answer the questions of a state
module _ (ask : Question → Answer) where
  unfoldable pub answers : State → Sort → Answer
  answers m (set_up u) = Ok
  answers m (update u) = Changed (length (changes m u))
  answers m (question q) = ask q

  unfoldable pub accepted : State → ℕ → Sort → Done
  accepted m n r = record { answer = answers m r; passed = n; left = leaves m r; written = writes m r }

  -- a record of n bytes that is refused, or by none of its checks
  unfoldable pub taken : State → ℕ → Sort → Option Refusal → Done
  taken m n r (some k) = only m n (Refused k)
  taken m n r none = accepted m n r

  -- by what was read: at "end" and where no record is there no byte is gone past
  unfoldable pub step_for : State → Read → Done
  step_for m (right None) = only m 0 End
  step_for m (wrong k) = only m 0 (Refused k)
  step_for m (right (Some (r, n))) = taken m n (sort_of r) (turned_by m (sort_of r))

  -- where the lent list has room words
  unfoldable pub step_with : State → ℕ → Read → Done
  step_with m room x = pick (ltb room list_room) (only m 0 (Refused ShortList)) (step_for m x)

-- THE MEANING of one step: the next record of the bytes s
unfoldable pub step_of : State → ℕ → List ℕ → Done
step_of m room s = step_with (by_address m) m room (read_of s)

-- the answer to a question alone; a record that asks nothing is out of its order among questions
unfoldable pub reply_to : State → Record → Answer
reply_to m r = pick (is_question (sort_of r)) (step_for (by_address m) m (got r 0)).answer (Refused OutOfOrder)
