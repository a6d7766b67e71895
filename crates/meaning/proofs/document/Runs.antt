-- Where the place stays and where it goes on: a step passes no byte exactly when it is answered "end", 0, 1 or 2, and a run stops at one of these;
-- a reader goes on as a step does. What stands in the lent list, and how many entries an accepted insert or remove writes. Assumes nothing.
use mathlib.Core.Path.{◌≡◌, refl, sym, ap, ◌∙◌}
use mathlib.Core.Logic.{◌↔◌, inl, inr}
use mathlib.Core.Bool.{false}
use mathlib.Core.Option.{Option, none, some}
use mathlib.Core.List.{List}
use Prim.Native.Nat.{ℕ, zero, suc, ◌+◌, ◌-◌, ◌*◌, ◌≤◌, ◌<◌}
use native.Mathlib.Numerals.{add-one}
use native.Mathlib.Omega.{arith}
use lib.Dec.{eqb}
use lib.ListN.{length, get_or, drop, length-append, length-drop, get_or-append}
use lib.Seq.{drop-drop, get_or-append-add, get_or-drop}
use borrow.Author.Tests.{eq-eqb, ne_eqb}
use Rattle.meaning.specs.declared.Answer.{Answer}
use Rattle.meaning.specs.declared.Answer.TheVariants.{End, Refused, Ok, Changed, Loop, NoLoop, Went, Yes, No, Tally}
use Rattle.meaning.specs.declared.Refusal.{Refusal}
use Rattle.meaning.specs.declared.Refusal.TheVariants.{ShortList, UnknownKind, CutOff}
use Rattle.meaning.specs.Answers.{number_of}
use Rattle.meaning.specs.Search.{pick, lowest_below}
use Rattle.meaning.specs.Hall.{top, State, fresh}
use Rattle.meaning.specs.Labels.{labels_of}
use Rattle.meaning.specs.Working.{owners_of}
use Rattle.meaning.specs.Changes.{overwrite, entry_words}
use Rattle.meaning.specs.Questions.{loops_at, circle_at, some_node, loop_from, reaches_at, reach_from, asked, by_address}
use Rattle.meaning.specs.Records.{read_of, place_after, Question, loop, fate, reach, tally, Sort, set_up, update, question, sort_of}
use Rattle.meaning.specs.Step.{list_room, Done, updated, node_of, listed, changes, leaves, writes, only, answers, accepted, step_of}
use Rattle.meaning.specs.Run.{Ran, run_from, run_of, Came, start, more}
use Rattle.meaning.specs.Box.{left, left_by, left_of, ran_by, ran_of}
use Rattle.meaning.specs.Tables.{Sound}
use Rattle.meaning.proofs.sound.Kept.{sound}
use Rattle.meaning.proofs.atoms.ChangeList.{changed_few, entries_length}
use Rattle.meaning.proofs.records.Passed.{passed_few}
use Rattle.meaning.proofs.records.Steps.{Stepped, short, ended, unread, turned, took, stepped, is_ok, quiet}

-- ---- the answers to questions

-- 0 for "end" and a refusal, 1 for an accepted insert or remove, 2 for every other answer
sort : Answer → ℕ
sort End = 0
sort (Refused k) = 0
sort Ok = 2
sort (Changed n) = 1
sort (Loop a v) = 2
sort NoLoop = 2
sort (Went f) = 2
sort (Yes a) = 2
sort No = 2
sort (Tally o l r) = 2

reply : (m : State) (q : Question) → sort (by_address m q) ≡ 2
unfolding by_address asked sort
reply m loop = go (lowest_below (top m) (loops_at m))
  where
    node : (a : ℕ) (o : Option ℕ) → sort (some_node a o) ≡ 2
    node a none = unfold some_node in refl
    node a (some v) = unfold some_node in refl

    go : (o : Option ℕ) → sort (loop_from m o) ≡ 2
    go none = unfold loop_from in refl
    go (some a) = unfold loop_from in node a (circle_at m a)
reply m (fate v a) = refl
reply m (reach v w) = go (lowest_below (top m) (reaches_at m v w))
  where
    go : (o : Option ℕ) → sort (reach_from o) ≡ 2
    go none = unfold reach_from in refl
    go (some a) = unfold reach_from in refl
reply m (tally v) = refl

-- ---- the place

-- the answers that a run stops at
pub data Stops : Answer → Type 0 where
  at_end : Stops End
  at_zero : Stops (Refused ShortList)
  at_one : Stops (Refused UnknownKind)
  at_two : Stops (Refused CutOff)

stop_sort : (a : Answer) → Stops a → sort a ≡ 0
unfolding sort
stop_sort a at_end = refl
stop_sort a at_zero = refl
stop_sort a at_one = refl
stop_sort a at_two = refl

stop_few : (k : Refusal) → Stops (Refused k) → number_of k ≤ 2
stop_few k at_zero = omega arith
stop_few k at_one = omega arith
stop_few k at_two = omega arith

module _ (m : State) (room : ℕ) (s : List ℕ) where
  -- an accepted record is answered by none of these
  answer_sort : (r : Sort) → sort (answers (by_address m) m r) ≡ 0 → ⊥
  unfolding answers sort
  answer_sort (set_up u) e = omega arith
  answer_sort (update u) e = omega arith
  answer_sort (question q) e = omega (arith, reply m q)

  -- THE LAW: no byte is passed exactly when the answer is "end", 0, 1 or 2
  pub stays : ((step_of m room s).passed ≡ 0) ↔ Stops (step_of m room s).answer
  unfolding step_of only accepted
  stays = (there _ (stepped _ m room s), back _ (stepped _ m room s))
    where
      there : (d : Done) → Stepped (by_address m) m room s d → d.passed ≡ 0 → Stops d.answer
      there d (short l) e = at_zero
      there d (ended l q) e = at_end
      there d (unread k l q (inl o)) e = rw o at_one
      there d (unread k l q (inr o)) e = rw o at_two
      there d (turned r n k l q pos f b) e = absurd (omega arith)
      there d (took r n l q pos f) e = absurd (omega arith)

      back : (d : Done) → Stepped (by_address m) m room s d → Stops d.answer → d.passed ≡ 0
      back d (short l) h = refl
      back d (ended l q) h = refl
      back d (unread k l q o) h = refl
      back d (turned r n k l q pos f b) h = absurd (omega (arith, stop_few k h))
      back d (took r n l q pos f) h = absurd (answer_sort (sort_of r) (stop_sort _ h))

-- THE LAW: a reader goes on by as many bytes as a step passes, whatever the state
pub reader_follows : (m : State) (room : ℕ) (s : List ℕ) (at : ℕ) → list_room ≤ room → place_after at (read_of s) ≡ at + (step_of m room s).passed
unfolding step_of only accepted place_after
reader_follows m room s at h = go _ (stepped _ m room s)
  where
    go : (d : Done) → Stepped (by_address m) m room s d → place_after at (read_of s) ≡ at + d.passed
    go d (short l) = absurd (omega arith)
    go d (ended l q) = rw q (omega arith)
    go d (unread k l q o) = rw q (omega arith)
    go d (turned r n k l q pos f b) = rw q refl
    go d (took r n l q pos f) = rw q refl

-- ---- the lent list

-- THE LAW: the words written stand at its front, and what is behind them stays as it was
pub overwritten : (written old : List ℕ) (i : ℕ) → i < length written → get_or (overwrite written old) i 0 ≡ get_or written i 0
unfolding overwrite
overwritten written old i h = get_or-append written (drop (length written) old) 0 i h

pub behind_stays : (written old : List ℕ) (i : ℕ) → length written ≤ i → get_or (overwrite written old) i 0 ≡ get_or old i 0
unfolding overwrite
behind_stays written old i h =
    let e : length written + (i - length written) ≡ i = omega arith in
    rw (← e) (get_or-append-add written (drop (length written) old) (i - length written) 0 ∙ get_or-drop (length written) old (i - length written) 0)

pub long_as_before : (written old : List ℕ) → length written ≤ length old → length (overwrite written old) ≡ length old
unfolding overwrite
long_as_before written old h = length-append written (drop (length written) old) ∙ omega (arith, length-drop (length written) old)

-- ---- the run

-- a run with no bound on its steps: it ends with the first step that passes no byte, and counts each record before it
pub data Runs : ℕ → State → List ℕ → List ℕ → Ran → Type 0 where
  stop : (n : ℕ) (m : State) (list s : List ℕ) → (step_of m (length list) s).passed ≡ 0
      → Runs n m list s (record { past = n; stopped = (step_of m (length list) s).answer; left = m; list = list })
  next : (n : ℕ) (m : State) (list s : List ℕ) (r : Ran) → 0 < (step_of m (length list) s).passed
      → Runs (n + 1) (step_of m (length list) s).left (overwrite (step_of m (length list) s).written list) (drop (step_of m (length list) s).passed s) r
      → Runs n m list s r

stop_quiet : (a : Answer) → Stops a → is_ok a ≡ false
unfolding is_ok
stop_quiet a at_end = refl
stop_quiet a at_zero = refl
stop_quiet a at_one = refl
stop_quiet a at_two = refl

few : (m : State) (room : ℕ) (s : List ℕ) → (step_of m room s).passed ≤ length s
unfolding step_of
few m room s = passed_few (by_address m) m room s

run_from_lem : (k n : ℕ) (m : State) (list s : List ℕ) → length s < k → Runs n m list s (run_from step_of k n m list s)
unfolding run_from
run_from_lem zero n m list s h = absurd (omega arith)
run_from_lem (suc k) n m list s h = go d.passed refl (run_from_lem k (n + 1) d.left (overwrite d.written list) (drop d.passed s))
  where
    d : Done
    d = step_of m (length list) s

    on : Ran
    on = run_from step_of k (n + 1) d.left (overwrite d.written list) (drop d.passed s)

    here : Ran
    here = record { past = n; stopped = d.answer; left = d.left; list = overwrite d.written list }

    plain : d.passed ≡ 0 → here ≡ record { past = n; stopped = d.answer; left = m; list = list }
    plain e =
        let q = quiet m (length list) s (stop_quiet _ ((stays m (length list) s).0 e)) in
        rw (q.state, q.list) (unfold overwrite in refl)

    go : (p : ℕ) → d.passed ≡ p → (length (drop d.passed s) < k → Runs (n + 1) d.left (overwrite d.written list) (drop d.passed s) on) → Runs n m list s (pick (eqb p 0) here on)
    go zero e f = rw (plain e) (stop n m list s e)
    go (suc p) e f = rw (ne_eqb (suc p) 0 (λ q. omega arith)) (next n m list s on (omega arith) (f (omega (arith, length-drop d.passed s, few m (length list) s))))

-- THE LAW: the run over a whole stream is that run, from a fresh box
pub runs : (list s : List ℕ) → Runs 0 fresh list s (run_of list s)
unfolding run_of
runs list s = run_from_lem (length s + 1) 0 fresh list s (omega arith)

-- where a run over s stopped: with no byte passed, at "end", 0, 1 or 2, in a state that came from a fresh one by records
pub record StopsAt (s : List ℕ) (r : Ran) : Type 0 where
  pub place : ℕ
  pub stays : (step_of r.left (length r.list) (drop place s)).passed ≡ 0
  pub answer : (step_of r.left (length r.list) (drop place s)).answer ≡ r.stopped
  pub stops : Stops r.stopped
  pub came : Came r.left

stopped : {n : ℕ} {m : State} {list s : List ℕ} {r : Ran} → Came m → Runs n m list s r → StopsAt s r
stopped c (stop n m list s e) = record { place = 0; stays = e; answer = refl; stops = (stays m (length list) s).0 e; came = c }
stopped c (next n m list s r h x) =
    let f = stopped (more (length list) s c) x in
    let p = (step_of m (length list) s).passed in
    let e : drop f.place (drop p s) ≡ drop (p + f.place) s = drop-drop f.place p s in
    record { place = p + f.place; stays = rw e at f.stays; answer = rw e at f.answer; stops = f.stops; came = f.came }

pub run_stops : (list s : List ℕ) → StopsAt s (run_of list s)
run_stops list s = stopped start (runs list s)

-- ---- the change list's length

-- n entries, at most 512 of them
pub record Entries (n : ℕ) (written : List ℕ) : Type 0 where
  pub words : length written ≡ entry_words * n
  pub few : n ≤ 512

module _ (m : State) (room : ℕ) (s : List ℕ) (c : Came m) where
  entries : (n : ℕ) (r : Sort) (k : ℕ) → Sound (leaves m r) → answers (by_address m) m r ≡ Changed k → Entries k (accepted (by_address m) m n r).written
  unfolding accepted answers sort leaves writes listed
  entries n (set_up u) k S e = absurd (omega (arith, ap sort e))
  entries n (update u) k S e =
      let x : length (changes m u) ≡ k = cc in
      record { words = entries_length m _ _ (changes m u) ∙ ap (λ (j : ℕ). entry_words * j) x; few = omega (arith, x, changed_few m (updated m u) (node_of m u) (updated m u).atoms.count, S.cuts.room) }
  entries n (question q) k S e = absurd (omega (arith, ap sort e, reply m q))

  -- THE LAW: `ok` and a number n come with n entries
  pub lists : (n : ℕ) → (step_of m room s).answer ≡ Changed n → Entries n (step_of m room s).written
  unfolding step_of accepted only sort
  lists n = go _ (stepped (by_address m) m room s) (sound _ (more room s c))
    where
      go : (d : Done) → Stepped (by_address m) m room s d → Sound d.left → d.answer ≡ Changed n → Entries n d.written
      go d (short l) S e = absurd (omega (arith, ap sort e))
      go d (ended l q) S e = absurd (omega (arith, ap sort e))
      go d (unread k l q o) S e = absurd (omega (arith, ap sort e))
      go d (turned r i k l q pos f b) S e = absurd (omega (arith, ap sort e))
      go d (took r i l q pos f) S e = entries i (sort_of r) n S e

-- THE LAW: a run whose first step passes no byte leaves what that step leaves, having gone past no record
pub ran_stops : (list s : List ℕ) → (step_of fresh (length list) s).passed ≡ 0 → ran_of list s ≡ left_of fresh list s
unfolding ran_of ran_by left_of left_by run_of run_from
ran_stops list s e =
    let d = step_of fresh (length list) s in
    rw (add-one (length s), eq-eqb d.passed 0 e)
    (ap (λ (n : ℕ). left d.answer n d.left (labels_of d.left) (owners_of d.left) (overwrite d.written list)) (sym e))

-- turns enough are as good as any more
pub run_enough : (step : State → ℕ → List ℕ → Done) → ((m : State) (room : ℕ) (s : List ℕ) → (step m room s).passed ≤ length s)
    → (k j n : ℕ) (m : State) (list s : List ℕ) → length s < k → k ≤ j → run_from step k n m list s ≡ run_from step j n m list s
unfolding run_from
run_enough step f zero j n m list s h l = absurd (omega arith)
run_enough step f (suc k) zero n m list s h l = absurd (omega arith)
run_enough step f (suc k) (suc j) n m list s h l =
    go d.passed refl (run_enough step f k j (n + 1) d.left (overwrite d.written list) (drop d.passed s))
  where
    d : Done
    d = step m (length list) s

    on : ℕ → Ran
    on i = run_from step i (n + 1) d.left (overwrite d.written list) (drop d.passed s)

    here : Ran
    here = record { past = n; stopped = d.answer; left = d.left; list = overwrite d.written list }

    go : (p : ℕ) → d.passed ≡ p → (length (drop d.passed s) < k → k ≤ j → on k ≡ on j) → pick (eqb p 0) here (on k) ≡ pick (eqb p 0) here (on j)
    go zero e ih = refl
    go (suc p) e ih = rw (ne_eqb (suc p) 0 (λ q. omega arith)) (ih (omega (arith, length-drop d.passed s, f m (length list) s)) (omega arith))
