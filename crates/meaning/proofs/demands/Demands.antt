-- The three demands, as statements: a field stands under the words that it says. That they hold is proved in Hold.
-- From the files of the laws only types are taken. Assumes nothing: these are statements.
use mathlib.Core.Path.{◌≡◌}
use mathlib.Core.Logic.{◌↔◌, ◌⊎◌}
use mathlib.Core.Bool.{true, false, ◌&&◌, ◌||◌}
use mathlib.Core.Option.{Option, none, some}
use mathlib.Core.List.{List, [], ◌∷◌}
use Prim.Native.Nat.{ℕ, ◌+◌, ◌*◌, ◌%◌, ◌^◌, ◌≤◌, ◌<◌}
use lib.Dec.{ltb, eqb}
use lib.ListN.{length}
use Rattle.meaning.specs.declared.Fate.{Fate}
use Rattle.meaning.specs.declared.Answer.{Answer}
use Rattle.meaning.specs.declared.Answer.TheVariants.{End, Refused, Ok, Changed, Loop, NoLoop, Went, Yes, No, Tally}
use Rattle.meaning.specs.declared.Record.{Record}
use Rattle.meaning.specs.declared.Record.TheVariants.{Hall, Link, Close, Insert, Remove, Loop as AskLoop, Fate as AskFate, Reach as AskReach, Tally as AskTally}
use Rattle.meaning.specs.declared.Refusal.{Refusal}
use Rattle.meaning.specs.Answers.{number_of}
use Rattle.meaning.specs.Search.{count_below}
use Rattle.meaning.specs.declared.hall.Phase.TheVariants.{Closed}
use Rattle.meaning.specs.Hall.{top, stage, State, fresh, source_of, end_of}
use Rattle.meaning.specs.Rule.{live, link_of, length_of, rank, lower, span}
use Rattle.meaning.specs.Winner.{rule_at, winner, next_at}
use Rattle.meaning.specs.Labels.{on, labels_of}
use Rattle.meaning.specs.Working.{owners_of}
use Rattle.meaning.specs.Changes.{link_or_none}
use Rattle.meaning.specs.Questions.{is_out, is_lost, is_round, fate_of}
use Rattle.meaning.specs.Records.{body_of, record_of, Update, insert, remove, update, sort_of, phase_of, is_question}
use Rattle.meaning.specs.Step.{Done, node_of, step_of}
use Rattle.meaning.specs.Run.{run_of, Came, start, more}
use Rattle.meaning.specs.Box.{Left, left_of}
use Rattle.meaning.specs.Atoms.{is_boundary}
use Rattle.meaning.proofs.walk.Walks.{OnCircle, IsFate}
use Rattle.meaning.proofs.base.Search.{Lowest}
use Rattle.meaning.proofs.document.Winners.{Serves, Outranks, Stored}
use Rattle.meaning.proofs.document.Atoms.{InAtom}
use Rattle.meaning.proofs.document.Questions.{Loops, Comes}
use Rattle.meaning.proofs.document.Runs.{Stops, Runs}

-- ---- demand 1

-- a check: its number, and when it refuses
pub record Reason : Type 1 where
  pub number : ℕ
  pub refuses : Type 0

abbrev pub check : ℕ → Type 0 → Reason
check k P = record { number = k; refuses = P }

-- the outcome of checks in their order: the number of the first that refuses, or none
unfoldable pub Outcome : List Reason → Option ℕ → Type 0
Outcome [] o = o ≡ none
Outcome (c ∷ cs) o = (c.refuses × (o ≡ some c.number)) ⊎ ((c.refuses → ⊥) × Outcome cs o)

-- a live rule at the node of link l, of priority t, covers an address of the prefix p of length n
pub record Ties (m : State) (l p n t : ℕ) : Type 0 where
  pub address : ℕ
  pub rule : ℕ
  pub serves : Serves m (source_of m l) address rule
  pub priority : rank m.width (rule_at m rule) ≡ t
  pub from : p ≤ address
  pub below : address < p + span m.width n

-- how many inner boundaries would exist: those there are and the two ends of the prefix, without 0 and the end of the range
unfoldable pub inner_with : State → ℕ → ℕ → ℕ
inner_with m p n = count_below (top m) (λ b. ltb 0 b && (is_boundary m b || eqb b p || eqb b (p + span m.width n)))

-- THE TABLE: "hall 4; link 6, 4 (source), 7, 4 (end); insert 8, 9, 5, 11, 12, 13; remove 8, 10; questions 4, A before B"
unfoldable pub checks_of : State → Record → List Reason
checks_of m (Hall n) = check 4 ((n ≡ 0) ⊎ (16 < n)) ∷ []
checks_of m (Link s c e) =
    check 6 (64 ≤ m.plan.links)
    ∷ check 4 (m.plan.nodes ≤ s)
    ∷ check 7 ((2 < c) ⊎ ((c ≡ 2) × (e ≡ 0 → ⊥)))
    ∷ check 4 ((c ≡ 0) × (m.plan.nodes ≤ e))
    ∷ []
checks_of m Close = []
checks_of m (Insert r l p n t) =
    check 8 (255 < r)
    ∷ check 9 (live (rule_at m r) ≡ true)
    ∷ check 5 (m.plan.links ≤ l)
    ∷ check 11 ((m.width < n) ⊎ (p % span m.width n ≡ 0 → ⊥))
    ∷ check 12 (Ties m l p n t)
    ∷ check 13 (511 < inner_with m p n)
    ∷ []
checks_of m (Remove r) = check 8 (255 < r) ∷ check 10 (live (rule_at m r) ≡ false) ∷ []
checks_of m AskLoop = []
checks_of m (AskFate v a) = check 4 (m.plan.nodes ≤ v) ∷ []
checks_of m (AskReach v w) = check 4 (m.plan.nodes ≤ v) ∷ check 4 (m.plan.nodes ≤ w) ∷ []
checks_of m (AskTally v) = check 4 (m.plan.nodes ≤ v) ∷ []

-- "0, 1, 2, 3 for every kind ("end" comes after 0), then" the kind's own; the lent list has room words, and an entry takes 5
unfoldable pub checks : State → ℕ → List ℕ → List Reason
checks m room [] = check 0 (room < 5 * 512) ∷ []
checks m room (kind ∷ body) =
    check 0 (room < 5 * 512)
    ∷ check 1 ((kind ≡ 0) ⊎ (9 < kind))
    ∷ check 2 (length body < body_of kind)
    ∷ check 3 (m.plan.phase ≡ phase_of (sort_of (record_of (kind ∷ body))) → ⊥)
    ∷ checks_of m (record_of (kind ∷ body))

-- the number that an answer refuses by
unfoldable pub refused_by : Answer → Option ℕ
refused_by End = none
refused_by (Refused k) = some (number_of k)
refused_by Ok = none
refused_by (Changed n) = none
refused_by (Loop a v) = none
refused_by NoLoop = none
refused_by (Went f) = none
refused_by (Yes a) = none
refused_by No = none
refused_by (Tally o l r) = none

-- the box is as it stood: hall, links, rules, boundaries and atom numbers; labels; owners; the lent list
pub record Stands (m : State) (list : List ℕ) (left : Left) : Type 0 where
  pub state : left.state ≡ m
  pub label : left.label ≡ labels_of m
  pub owner : left.owner ≡ owners_of m
  pub lent : left.list ≡ list

pub record Demand1 : Type 0 where
  -- "every byte string is taken and the reading ends (the run's contract has no premise)": with the first step that passes no byte, at "end", 0, 1 or 2
  pub ends : (list s : List ℕ) → Runs 0 fresh list s (run_of list s)
  pub stops : (list s : List ℕ) → Stops (run_of list s).stopped
  -- "a refused record is refused for the reason document 01 gives and no other"
  pub reason : (m : State) → Came m → (room : ℕ) (s : List ℕ) → Outcome (checks m room s) (refused_by (step_of m room s).answer)
  pub no_other : (m : State) (room : ℕ) (s : List ℕ) (o p : Option ℕ) → Outcome (checks m room s) o → Outcome (checks m room s) p → o ≡ p
  pub end : (m : State) (room : ℕ) (s : List ℕ) → ((step_of m room s).answer ≡ End) ↔ ((5 * 512 ≤ room) × (length s ≡ 0))
  -- "with rules, atoms and labels as they stood"
  pub stands : (m : State) (list s : List ℕ) (k : Refusal) → (step_of m (length list) s).answer ≡ Refused k → Stands m list (left_of m list s)

-- ---- demand 2

-- the highest-priority live rule for address a at node v names link l
abbrev pub Names : State → ℕ → ℕ → ℕ → Type 0
Names m v a l = (w : ℕ) × Outranks m v a w × (link_of m.width (rule_at m w) ≡ l)

-- the bytes s ask r, and r is not refused
pub record Asks (m : State) (room : ℕ) (s : List ℕ) (r : Record) : Type 0 where
  pub record_is : record_of s ≡ r
  pub taken : refused_by (step_of m room s).answer ≡ none

-- the rule that an update names
unfoldable pub rule_of : Update → ℕ
rule_of (insert r l p n t) = r
rule_of (remove r) = r

-- the state that the step on the bytes s leaves, where the lent list has room words
abbrev pub then : State → ℕ → List ℕ → State
then m room s = (step_of m room s).left

-- the step accepts an update of rule i: an insert or a remove
pub record Accepts (m : State) (room : ℕ) (s : List ℕ) (i : ℕ) : Type 0 where
  pub sent : Update
  pub record_is : sort_of (record_of s) ≡ update sent
  pub names : rule_of sent ≡ i
  pub count : ℕ
  pub ok : (step_of m room s).answer ≡ Changed count

-- the step accepts a hall, a link or a close
pub record Takes (m : State) (room : ℕ) (s : List ℕ) (r : Record) : Type 0 where
  pub record_is : record_of s ≡ r
  pub ok : (step_of m room s).answer ≡ Ok

-- on the way by which a state came, a hall of n nodes was accepted
unfoldable pub HasNodes : {m : State} → Came m → ℕ → Type 0
HasNodes start n = ⊥
HasNodes (more {m = m} room s c) n = Takes m room s (Hall n) ⊎ HasNodes c n

-- and, when there were l links, a link with source a and the end e of code k: its number is e for a node, 256 + e for a port, 512 for the drop
unfoldable pub HasLink : {m : State} → Came m → ℕ → ℕ → ℕ → ℕ → Type 0
HasLink start l a k e = ⊥
HasLink (more {m = m} room s c) l a k e = ((m.plan.links ≡ l) × Takes m room s (Link a k e)) ⊎ HasLink c l a k e

-- and a close
unfoldable pub HasClose : {m : State} → Came m → Type 0
HasClose start = ⊥
HasClose (more {m = m} room s c) = Takes m room s Close ⊎ HasClose c

-- on the way by which a state came, rule i was inserted with link l, prefix p, length n and priority t, and no update of rule i was accepted since
unfoldable pub InForce : {m : State} → Came m → ℕ → ℕ → ℕ → ℕ → ℕ → Type 0
InForce start i l p n t = ⊥
InForce (more {m = m} room s c) i l p n t = (Accepts m room s i × (record_of s ≡ Insert i l p n t)) ⊎ (InForce c i l p n t × (Accepts m room s i → ⊥))

pub record Demand2 : Type 0 where
  -- "IPv4": the addresses are those that four bytes can say
  pub addresses : {m : State} → Came m → top m ≡ 256 ^ 4
  -- "after any updates": the hall and the links are those declared; what is live is what was inserted and not removed since, with its parts
  pub hall_is : {m : State} (c : Came m) (n : ℕ) → HasNodes c n ↔ ((0 < stage m.plan.phase) × (m.plan.nodes ≡ n))
  pub close_is : {m : State} (c : Came m) → HasClose c ↔ (m.plan.phase ≡ Closed)
  pub link_is : {m : State} (c : Came m) (l a k e : ℕ) → HasLink c l a k e → (l < m.plan.links) × (source_of m l ≡ a) × (end_of m l ≡ k * 256 + e)
  pub linked : {m : State} (c : Came m) (l : ℕ) → l < m.plan.links → (a k e : ℕ) × HasLink c l a k e
  pub rules : {m : State} (c : Came m) (i l p n t : ℕ) → InForce c i l p n t ↔ Stored m i l p n t
  -- "the atoms cover each address once"
  pub covers : {m : State} → Came m → (a : ℕ) → a < top m → (k : ℕ) × InAtom m k a
  pub once : {m : State} → Came m → (a j k : ℕ) → InAtom m j a → InAtom m k a → j ≡ k
  pub atoms : {m : State} → Came m → (k : ℕ) → (k < m.atoms.count) ↔ ((a : ℕ) × (a < top m) × InAtom m k a)
  -- "an atom is on a link exactly when, for each address in it, the highest-priority live rule at that link's source names that link"
  pub labels : {m : State} → Came m → (l k : ℕ) → l < m.plan.links → k < m.atoms.count → (on (labels_of m) l k ≡ true) ↔ ((a : ℕ) → InAtom m k a → Names m (source_of m l) a l)
  -- "a loop is reported exactly when some address goes round"
  pub reported : {m : State} → Came m → (room : ℕ) (s : List ℕ) → Asks m room s AskLoop
      → ((a v : ℕ) × ((step_of m room s).answer ≡ Loop a v)) ↔ ((a : ℕ) × (a < top m) × Loops m a)
  pub unreported : {m : State} → Came m → (room : ℕ) (s : List ℕ) → Asks m room s AskLoop
      → ((step_of m room s).answer ≡ NoLoop) ↔ ((a : ℕ) → a < top m → Loops m a → ⊥)
  -- "with the lowest such address (and the lowest node on one of its circles)"
  pub witness : {m : State} → Came m → (room : ℕ) (s : List ℕ) (a v : ℕ) → Asks m room s AskLoop → (step_of m room s).answer ≡ Loop a v
      → Lowest (top m) (Loops m) a × Lowest m.plan.nodes (OnCircle (next_at m a) (end_of m)) v
  -- the walk and the other questions: "At a node it takes the winner's link"; fate, reach and tally
  pub way : {m : State} → Came m → (v a l : ℕ) → (next_at m a v ≡ some l) ↔ Names m v a l
  pub fate_is : {m : State} → Came m → (v a : ℕ) → v < m.plan.nodes → (f : Fate) → (fate_of m v a ≡ f) ↔ IsFate (next_at m a) (end_of m) v f
  pub fate_told : {m : State} → Came m → (room : ℕ) (s : List ℕ) (v a : ℕ) → Asks m room s (AskFate v a) → (step_of m room s).answer ≡ Went (fate_of m v a)
  pub reach_yes : {m : State} → Came m → (room : ℕ) (s : List ℕ) (v w : ℕ) → Asks m room s (AskReach v w) → (a : ℕ) → ((step_of m room s).answer ≡ Yes a) ↔ Lowest (top m) (Comes m v w) a
  pub reach_no : {m : State} → Came m → (room : ℕ) (s : List ℕ) (v w : ℕ) → Asks m room s (AskReach v w) → ((step_of m room s).answer ≡ No) ↔ ((a : ℕ) → a < top m → Comes m v w a → ⊥)
  pub tally_told : {m : State} → Came m → (room : ℕ) (s : List ℕ) (v : ℕ) → Asks m room s (AskTally v)
      → (step_of m room s).answer ≡ Tally (count_below (top m) (λ a. is_out (fate_of m v a))) (count_below (top m) (λ a. is_lost (fate_of m v a))) (count_below (top m) (λ a. is_round (fate_of m v a)))

-- ---- demand 3

-- rule i has the same prefix, length, priority and link in both
pub record SameRule (m n : State) (i : ℕ) : Type 0 where
  pub prefix : lower m.width (rule_at m i) ≡ lower n.width (rule_at n i)
  pub long : length_of m.width (rule_at m i) ≡ length_of n.width (rule_at n i)
  pub priority : rank m.width (rule_at m i) ≡ rank n.width (rule_at n i)
  pub link : link_of m.width (rule_at m i) ≡ link_of n.width (rule_at n i)

-- two histories on the same closed hall and links that end with the same live rules
pub record Twins (m n : State) : Type 0 where
  pub came : Came m × Came n
  pub closed : (m.plan.phase ≡ Closed) × (n.plan.phase ≡ Closed)
  pub nodes : m.plan.nodes ≡ n.plan.nodes
  pub links : m.plan.links ≡ n.plan.links
  pub source : (l : ℕ) → l < m.plan.links → source_of m l ≡ source_of n l
  pub end : (l : ℕ) → l < m.plan.links → end_of m l ≡ end_of n l
  pub number : (i : ℕ) → i < 256 → live (rule_at m i) ≡ live (rule_at n i)
  pub rule : (i : ℕ) → i < 256 → live (rule_at m i) ≡ true → SameRule m n i

-- a change list has an entry over address a, from link x to link y, with 64 for none
pub data Lists (a x y : ℕ) : List ℕ → Type 0 where
  here : (atom low high : ℕ) {rest : List ℕ} → low ≤ a → a < high → Lists a x y (atom ∷ low ∷ high ∷ x ∷ y ∷ rest)
  later : (atom low high old new : ℕ) {rest : List ℕ} → Lists a x y rest → Lists a x y (atom ∷ low ∷ high ∷ old ∷ new ∷ rest)

-- between two states the winner at node v for address a changes, and its link from x to y
pub record Changes (m n : State) (v a x y : ℕ) : Type 0 where
  pub address : a < top n
  pub differs : winner m v a ≡ winner n v a → ⊥
  pub old : link_or_none (next_at m a v) ≡ x
  pub new : link_or_none (next_at n a v) ≡ y

-- two change lists that differ in atom numbers only
pub data SameEntries : List ℕ → List ℕ → Type 0 where
  empty : SameEntries [] []
  entry : (atom atom' low high old new : ℕ) {list list' : List ℕ} → SameEntries list list' → SameEntries (atom ∷ low ∷ high ∷ old ∷ new ∷ list) (atom' ∷ low ∷ high ∷ old ∷ new ∷ list')

-- two steps that are answered alike, pass as many bytes, and list the same changes but for atom numbers
pub record SameStep (d e : Done) : Type 0 where
  pub answer : d.answer ≡ e.answer
  pub passed : d.passed ≡ e.passed
  pub list : SameEntries d.written e.written

-- a later step: the room lent to it and its bytes
pub record Call : Type 0 where
  pub room : ℕ
  pub bytes : List ℕ

-- the state after some steps, one after another
unfoldable pub since : State → List Call → State
since m [] = m
since m (c ∷ cs) = since (then m c.room c.bytes) cs

-- x and y are left by two neighbouring updates with different rule numbers, on the bytes s and t, both accepted in either order;
-- each of the four steps has a room of its own
pub data EitherOrder : State → State → Type 0 where
  either : {m : State} (first second first' second' : ℕ) (s t : List ℕ) (i j : ℕ) → Came m → (i ≡ j → ⊥)
      → Accepts m first s i → Accepts (then m first s) second t j → Accepts m first' t j → Accepts (then m first' t) second' s i
      → EitherOrder (then (then m first s) second t) (then (then m first' t) second' s)

pub record Demand3 : Type 0 where
  -- "two histories on the same closed hall and links that end with the same live rules (number, prefix, length, priority, link)
  -- give every address at every node the same winner and fate"
  pub same_winner : {m n : State} → Twins m n → (v a : ℕ) → winner m v a ≡ winner n v a
  pub same_fate : {m n : State} → Twins m n → (v a : ℕ) → fate_of m v a ≡ fate_of n v a
  -- "and every loop, reach and tally question the same answer and witness": each box with a room of its own, both long enough or neither
  pub same_answer : {m n : State} → Twins m n → (room room' : ℕ) → ((room < 5 * 512) ↔ (room' < 5 * 512)) → (s : List ℕ) → is_question (sort_of (record_of s)) ≡ true
      → (step_of m room s).answer ≡ (step_of n room' s).answer
  -- "An update that both then accept changes the same addresses, from and to the same links"
  pub changes : {m : State} → Came m → (room : ℕ) (s : List ℕ) (i : ℕ) (A : Accepts m room s i)
      → (a x y : ℕ) → Lists a x y (step_of m room s).written ↔ Changes m (then m room s) (node_of m A.sent) a x y
  pub same_changes : {m n : State} → Twins m n → (room room' : ℕ) (s : List ℕ) (i : ℕ) → Accepts m room s i → Accepts n room' s i
      → (a x y : ℕ) → Lists a x y (step_of m room s).written ↔ Lists a x y (step_of n room' s).written
  pub same_after : {m n : State} → Twins m n → (room room' : ℕ) (s : List ℕ) (i : ℕ) → Accepts m room s i → Accepts n room' s i → Twins (then m room s) (then n room' s)
  -- "Only the cutting into atoms, their numbers and the room left may differ"
  pub only : {m n : State} → Twins m n → (m.plan.link ≡ n.plan.link) × (m.rule ≡ n.rule)
  -- "Two neighbouring updates with different rule numbers, both accepted in either order": the same live rules,
  pub same_rules : {x y : State} → EitherOrder x y → Twins x y
  -- "the cutting (the set of boundaries) is the same too"
  pub same_cutting : {x y : State} → EitherOrder x y → (calls : List Call) → ((since x calls).atoms.count ≡ (since y calls).atoms.count) × ((since x calls).atoms.cut ≡ (since y calls).atoms.cut)
  -- "and every later update, with the same room lent, is accepted or refused alike, with the same number"
  pub same_later : {x y : State} → EitherOrder x y → (calls : List Call) (room : ℕ) (s : List ℕ) → SameStep (step_of (since x calls) room s) (step_of (since y calls) room s)
