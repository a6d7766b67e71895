-- What a step comes to: five ways, by what the bytes begin with. A refusal, a question and "end" leave everything as it was.
-- Assumes nothing.
use mathlib.Core.Path.{◌≡◌, refl, sym, ap, ◌∙◌}
use mathlib.Core.Logic.{◌⊎◌}
use mathlib.Core.Bool.{Bool, true, false, true≢false}
use mathlib.Core.Option.{Option, none, some}
use mathlib.Core.List.{List, []}
use Prim.Native.Nat.{ℕ, ◌≤◌, ◌<◌}
use native.Mathlib.Omega.{arith}
use lib.Dec.{ltb}
use lib.ListN.{length}
use borrow.Author.Tests.{ltb-true, ltb-false, eq-eqb}
use Rattle.meaning.specs.declared.Answer.{Answer}
use Rattle.meaning.specs.declared.Answer.TheVariants.{End, Refused, Ok, Changed, Loop, NoLoop, Went, Yes, No, Tally}
use Rattle.std.specs.Prelude.{Err}
use Rattle.meaning.specs.declared.Refusal.{Refusal}
use Rattle.meaning.specs.declared.Refusal.TheVariants.{ShortList, UnknownKind, CutOff, OutOfOrder, NoNode, NoLink, LinksFull, NoEnd, NoRule, RuleLive, RuleNotLive, NoPrefix, Tie, CutsFull}
use Rattle.meaning.specs.declared.Record.{Record}
use Rattle.meaning.specs.Search.{pick}
use Rattle.meaning.specs.Hall.{ipv4, Plan, stage, State}
use Rattle.meaning.specs.Answers.{number_of}
use Rattle.meaning.specs.Labels.{labels_of}
use Rattle.meaning.specs.Working.{owners_of}
use Rattle.meaning.specs.Changes.{overwrite}
use Rattle.meaning.specs.Records.{record_of, Read, no_more, got, read_of, SetUp, hall, link, close, Update, insert, remove, Question, loop, fate, reach, tally, Sort, set_up, update, question, sort_of, phase_of}
use Rattle.meaning.specs.Step.{list_room, Done, when, set_up_refusal, update_refusal, question_refusal, refusal, turned_by, leaves, writes, only, answers, accepted, taken, step_for, step_with, step_of}
use Rattle.meaning.specs.Box.{left, left_by, left_of}
use Rattle.meaning.proofs.records.Fields.{Fits, fits}
use Rattle.meaning.proofs.records.Begins.{got_once, Begins, nothing, unread as without, whole, begins}
use Rattle.meaning.proofs.base.Order.{clash}

-- what is read is the record of these bytes, and so its fields have their sizes
pub reads_fit : (s : List ℕ) (r : Record) (n : ℕ) → read_of s ≡ got r n → Fits ipv4 (sort_of r)
reads_fit s r n e = go (read_of s) (begins s) e
  where
    go : (x : Read) → Begins s x → x ≡ got r n → Fits ipv4 (sort_of r)
    go x (nothing h) e = clash cc
    go x (without k h) e = clash cc
    go x (whole h) e = let q : record_of s ≡ r = (got_once e).0 in rw q at (fits s)

-- the five ways: the list is too short; no byte is left; the kind is unknown or the body cut off; the record is refused; it is accepted
pub data Stepped (ask : Question → Answer) (m : State) (room : ℕ) (s : List ℕ) : Done → Type 0 where
  short : room < list_room → Stepped ask m room s (only m 0 (Refused ShortList))
  ended : list_room ≤ room → read_of s ≡ no_more → Stepped ask m room s (only m 0 End)
  unread : (k : Refusal) → list_room ≤ room → read_of s ≡ Err k → (k ≡ UnknownKind) ⊎ (k ≡ CutOff) → Stepped ask m room s (only m 0 (Refused k))
  turned : (r : Record) (n : ℕ) (k : Refusal) → list_room ≤ room → read_of s ≡ got r n → 0 < n → turned_by m (sort_of r) ≡ some k → 2 < number_of k → Stepped ask m room s (only m n (Refused k))
  took : (r : Record) (n : ℕ) → list_room ≤ room → read_of s ≡ got r n → 0 < n → turned_by m (sort_of r) ≡ none → Stepped ask m room s (accepted ask m n (sort_of r))

-- ---- the numbers of a kind's own checks are above 2

-- a refusal, if there is one, of a number above 2
abbrev Above : Option Refusal → Type 0
Above o = (k : Refusal) → o ≡ some k → 2 < number_of k

above_none : Above none
above_none k e = clash cc

above_when : (t : Bool) (n : Refusal) (o : Option Refusal) → 2 < number_of n → Above o → Above (when t n o)
unfolding when
above_when true n o h f k e = let z : n ≡ k = cc in rw z at h
above_when false n o h f k e = f k e

above_set_up : (p : Plan) (u : SetUp) → Above (set_up_refusal p u)
unfolding set_up_refusal
above_set_up p (hall n) = above_when _ NoNode _ (omega arith) above_none
above_set_up p (link s c e) = above_when _ LinksFull _ (omega arith) (above_when _ NoNode _ (omega arith) (above_when _ NoEnd _ (omega arith) (above_when _ NoNode _ (omega arith) above_none)))
above_set_up p close = above_none

above_update : (m : State) (u : Update) → Above (update_refusal m u)
unfolding update_refusal
above_update m (insert r l p n t) =
    above_when _ NoRule _ (omega arith) (above_when _ RuleLive _ (omega arith) (above_when _ NoLink _ (omega arith)
    (above_when _ NoPrefix _ (omega arith) (above_when _ Tie _ (omega arith) (above_when _ CutsFull _ (omega arith) above_none)))))
above_update m (remove r) = above_when _ NoRule _ (omega arith) (above_when _ RuleNotLive _ (omega arith) above_none)

above_question : (p : Plan) (q : Question) → Above (question_refusal p q)
unfolding question_refusal
above_question p loop = above_none
above_question p (fate v a) = above_when _ NoNode _ (omega arith) above_none
above_question p (reach v w) = above_when _ NoNode _ (omega arith) (above_when _ NoNode _ (omega arith) above_none)
above_question p (tally v) = above_when _ NoNode _ (omega arith) above_none

above_refusal : (m : State) (r : Sort) → Above (refusal m r)
unfolding refusal
above_refusal m (set_up u) = above_set_up m.plan u
above_refusal m (update u) = above_update m u
above_refusal m (question q) = above_question m.plan q

-- ---- each step goes one of the five ways

module _ (ask : Question → Answer) (m : State) (room : ℕ) (s : List ℕ) where
  pub stepped : Stepped ask m room s (step_with ask m room (read_of s))
  unfolding step_with step_for taken
  stepped = go (ltb room list_room) refl (read_of s) refl (begins s)
    where
      last : (r : Record) (n : ℕ) → list_room ≤ room → read_of s ≡ got r n → 0 < n → (o : Option Refusal) → turned_by m (sort_of r) ≡ o → Above (turned_by m (sort_of r)) → Stepped ask m room s (taken ask m n (sort_of r) o)
      last r n h g pos (some k) e f = turned r n k h g pos e (f k e)
      last r n h g pos none e f = took r n h g pos e

      go : (a : Bool) → ltb room list_room ≡ a → (x : Read) → read_of s ≡ x → Begins s x → Stepped ask m room s (pick a (only m 0 (Refused ShortList)) (step_for ask m x))
      go true e x g b = short (ltb-true room list_room e)
      go false e x g (nothing h) = ended (ltb-false room list_room e) g
      go false e x g (without k h) = unread k (ltb-false room list_room e) g h
      go false e x g (whole h) =
          last _ _ (ltb-false room list_room e) g (omega arith) (turned_by m (sort_of (record_of s))) refl (above_when _ OutOfOrder _ (omega arith) (above_refusal m (sort_of (record_of s))))

  -- the way of an accepted record: room for 512 entries, bytes enough, in its order, and refused by no check
  pub accepts : (r : Record) (n : ℕ) → list_room ≤ room → read_of s ≡ got r n → m.plan.phase ≡ phase_of (sort_of r) → refusal m (sort_of r) ≡ none → step_with ask m room (read_of s) ≡ accepted ask m n (sort_of r)
  unfolding when
  accepts r n h g p e = go _ stepped
    where
      passes : turned_by m (sort_of r) ≡ none
      passes = rw (eq-eqb _ _ (ap stage p), e)

      go : (d : Done) → Stepped ask m room s d → d ≡ accepted ask m n (sort_of r)
      go d (short l) = absurd (omega arith)
      go d (ended l q) = clash cc
      go d (unread k l q o) = clash cc
      go d (turned r' n' k l q pos f b) = let x : r' ≡ r = (got_once (sym q ∙ g)).0 in clash (cc (ap (λ (x : Record). turned_by m (sort_of x)) x, passes))
      go d (took r' n' l q pos f) = let x : r' ≡ r = (got_once (sym q ∙ g)).0 in let y : n' ≡ n = (got_once (sym q ∙ g)).1 in rw (x, y)

  -- the way of a record that is refused by a number above 2
  pub refuses : (r : Record) (n : ℕ) (k : Refusal) → list_room ≤ room → read_of s ≡ got r n → turned_by m (sort_of r) ≡ some k → step_with ask m room (read_of s) ≡ only m n (Refused k)
  refuses r n k h g e = go _ stepped
    where
      go : (d : Done) → Stepped ask m room s d → d ≡ only m n (Refused k)
      go d (short l) = absurd (omega arith)
      go d (ended l q) = clash cc
      go d (unread k l q o) = clash cc
      go d (turned r' n' k' l q pos f b) = let x : r' ≡ r = (got_once (sym q ∙ g)).0 in let y : n' ≡ n = (got_once (sym q ∙ g)).1 in let z : k' ≡ k = cc (ap (λ (x : Record). turned_by m (sort_of x)) x) in rw (y, z)
      go d (took r' n' l q pos f) = let x : r' ≡ r = (got_once (sym q ∙ g)).0 in clash (cc (ap (λ (x : Record). turned_by m (sort_of x)) x))

-- ---- what stays

-- the step leaves the state as it was, and writes nothing
pub record Keeps (m : State) (d : Done) : Type 0 where
  pub state : d.left ≡ m
  pub list : d.written ≡ []

-- an answer of a record that may change something
unfoldable pub is_ok : Answer → Bool
is_ok End = false
is_ok (Refused k) = false
is_ok Ok = true
is_ok (Changed n) = true
is_ok (Loop a v) = false
is_ok NoLoop = false
is_ok (Went f) = false
is_ok (Yes a) = false
is_ok No = false
is_ok (Tally o l r) = false

module _ (m : State) where
  only_keeps : (n : ℕ) (a : Answer) → Keeps m (only m n a)
  unfolding only
  only_keeps n a = record { state = refl; list = refl }

  pub question_keeps : (ask : Question → Answer) (n : ℕ) (q : Question) → Keeps m (accepted ask m n (question q))
  unfolding accepted leaves writes
  question_keeps ask n q = record { state = refl; list = refl }

  quiet_keeps : (ask : Question → Answer) (n : ℕ) (r : Sort) → is_ok (accepted ask m n r).answer ≡ false → Keeps m (accepted ask m n r)
  unfolding is_ok accepted answers
  quiet_keeps ask n (set_up u) e = absurd (true≢false e)
  quiet_keeps ask n (update u) e = absurd (true≢false e)
  quiet_keeps ask n (question q) e = question_keeps ask n q

module _ (m : State) (room : ℕ) (s : List ℕ) where
  -- THE LAW: whatever is not answered "ok" leaves everything as it was and writes nothing
  pub quiet : is_ok (step_of m room s).answer ≡ false → Keeps m (step_of m room s)
  unfolding step_of
  quiet = go _ (stepped _ m room s)
    where
      go : {ask : Question → Answer} (d : Done) → Stepped ask m room s d → is_ok d.answer ≡ false → Keeps m d
      go d (short l) e = only_keeps m _ _
      go d (ended l q) e = only_keeps m _ _
      go d (unread k l q o) e = only_keeps m _ _
      go d (turned r n k l q pos f b) e = only_keeps m _ _
      go d (took r n l q pos f) e = quiet_keeps m _ n (sort_of r) e

  -- a refusal, and "end", leave everything as it was
  pub refused_keeps : (k : Refusal) → (step_of m room s).answer ≡ Refused k → Keeps m (step_of m room s)
  unfolding is_ok
  refused_keeps k e = quiet (ap is_ok e)

  pub end_keeps : (step_of m room s).answer ≡ End → Keeps m (step_of m room s)
  unfolding is_ok
  end_keeps e = quiet (ap is_ok e)

  -- and so does a question, whatever it is answered
  pub asked_keeps : (r : Record) (n : ℕ) (q : Question) → read_of s ≡ got r n → sort_of r ≡ question q → Keeps m (step_of m room s)
  unfolding step_of
  asked_keeps r n q g h = go _ (stepped _ m room s)
    where
      go : {ask : Question → Answer} (d : Done) → Stepped ask m room s d → Keeps m d
      go d (short l) = only_keeps m _ _
      go d (ended l q) = only_keeps m _ _
      go d (unread k l q o) = only_keeps m _ _
      go d (turned r n k l q pos f b) = only_keeps m _ _
      go d (took r' n' l g' pos f) = let x : r' ≡ r = (got_once (sym g' ∙ g)).0 in rw (x, h) (question_keeps m _ n' q)

-- so of the lent box: every table and the list are as they were
module _ (m : State) (list s : List ℕ) where
  pub quiet_left : is_ok (step_of m (length list) s).answer ≡ false
      → left_of m list s ≡ left (step_of m (length list) s).answer (step_of m (length list) s).passed m (labels_of m) (owners_of m) list
  unfolding left_of left_by overwrite
  quiet_left e =
      let d = step_of m (length list) s in
      let k = quiet m (length list) s e in
      rw (k.state, k.list)

-- ---- what is written

-- only an accepted insert or remove writes: `ok` with a number n, and then n entries of five words
unfoldable pub is_changed : Answer → Bool
is_changed End = false
is_changed (Refused k) = false
is_changed Ok = false
is_changed (Changed n) = true
is_changed (Loop a v) = false
is_changed NoLoop = false
is_changed (Went f) = false
is_changed (Yes a) = false
is_changed No = false
is_changed (Tally o l r) = false

module _ (m : State) (room : ℕ) (s : List ℕ) where
  unlisted : (ask : Question → Answer) (n : ℕ) (r : Sort) → is_changed (accepted ask m n r).answer ≡ false → (accepted ask m n r).written ≡ []
  unfolding is_changed accepted answers writes
  unlisted ask n (set_up u) e = refl
  unlisted ask n (update u) e = absurd (true≢false e)
  unlisted ask n (question q) e = refl

  pub writes_nothing : is_changed (step_of m room s).answer ≡ false → (step_of m room s).written ≡ []
  unfolding step_of
  writes_nothing = go _ (stepped _ m room s)
    where
      go : {ask : Question → Answer} (d : Done) → Stepped ask m room s d → is_changed d.answer ≡ false → d.written ≡ []
      go d (short l) e = (only_keeps m _ _).list
      go d (ended l q) e = (only_keeps m _ _).list
      go d (unread k l q o) e = (only_keeps m _ _).list
      go d (turned r n k l q pos f b) e = (only_keeps m _ _).list
      go d (took r n l q pos f) e = unlisted _ n (sort_of r) e
