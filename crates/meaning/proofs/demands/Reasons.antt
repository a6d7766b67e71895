-- A record is refused by the number of the first check in the document's order whose reason it has, and accepted where it has none.
-- Assumes nothing.
use mathlib.Core.Path.{◌≡◌, refl, sym, ap, ◌∙◌}
use mathlib.Core.Logic.{◌↔◌, ◌⊎◌, inl, inr, ⊎_elim}
use mathlib.Core.Bool.{Bool, true, false, not, ◌&&◌, ◌||◌, true≢false}
use mathlib.Core.Option.{Option, none, some}
use mathlib.Core.List.{List, [], ◌∷◌}
use Prim.Native.Nat.{ℕ, ◌+◌, ◌%◌, ◌≤◌, ◌<◌}
use native.Mathlib.Omega.{arith}
use lib.Dec.{leb, ltb, eqb}
use lib.ListN.{length}
use borrow.Author.Tests.{ltb-true, ltb-false, leb-true, leb-false, eqb-true, eq-eqb, ne_eqb, not-false, lt-ltb, le-leb}
use Rattle.meaning.specs.declared.Answer.TheVariants.{End, Refused}
use Rattle.meaning.specs.declared.Record.{Record}
use Rattle.std.specs.Prelude.{Err}
use Rattle.meaning.specs.declared.Refusal.{Refusal}
use Rattle.meaning.specs.declared.Refusal.TheVariants.{ShortList, UnknownKind, CutOff, OutOfOrder, NoNode, NoLink, LinksFull, NoEnd, NoRule, RuleLive, RuleNotLive, NoPrefix, Tie, CutsFull}
use Rattle.meaning.specs.Answers.{number_of}
use Rattle.meaning.specs.Search.{pick, lowest_below}
use Rattle.meaning.specs.declared.hall.Phase.{Phase}
use Rattle.meaning.specs.Hall.{top, stage, State, source_of}
use Rattle.meaning.specs.Rule.{rule_word, live, rank, lower, upper, span}
use Rattle.meaning.specs.Winner.{rule_at, node_for}
use Rattle.meaning.specs.Questions.{loops_at, circle_at, some_node, loop_from, reaches_at, reach_from, asked, by_address}
use Rattle.meaning.specs.Records.{is_kind, body_of, record_of, got, read_of, Question, loop, fate, reach, tally, Sort, set_up, update, question, sort_of, phase_of}
use Rattle.meaning.specs.Step.{list_room, when, set_up_refusal, ragged, clashes, added, update_refusal, question_refusal, refusal, turned_by, only, answers, accepted, taken, step_for, step_with, step_of}
use Rattle.meaning.specs.Run.{Came}
use Rattle.meaning.specs.declared.Record.TheVariants.{Hall, Link, Close, Insert, Remove, Loop as AskLoop, Fate as AskFate, Reach as AskReach, Tally as AskTally}
use Rattle.meaning.proofs.base.Stages.{stage_once}
use Rattle.meaning.proofs.base.Order.{le_or_lt}
use Rattle.meaning.proofs.rules.Words.{RuleFits, link_of_lem, rank_of, lower_of, upper_of, within_top}
use Rattle.meaning.proofs.records.Fields.{FitsUpdate, Fits, fits}
use Rattle.meaning.proofs.base.Search.{any_true, any_some, and_both, or_neither}
use Rattle.meaning.proofs.sound.Sound.{width_is}
use Rattle.meaning.proofs.sound.Kept.{sound}
use Rattle.meaning.proofs.rules.Covers.{covers_is, overlap_is}
use Rattle.meaning.proofs.demands.Demands.{Reason, check, Outcome, Ties, inner_with, checks_of, checks, refused_by}
use Rattle.meaning.proofs.demands.Thirteen.{inner_count}

-- ---- tests

-- a test says whether P
abbrev Test : Bool → Type 0 → Type 0
Test t P = (t ≡ true) ↔ P

lt_test : (a b : ℕ) → Test (ltb a b) (a < b)
lt_test a b = (ltb-true a b, lt-ltb a b)

le_test : (a b : ℕ) → Test (leb a b) (a ≤ b)
le_test a b = (leb-true a b, le-leb a b)

eq_test : (a b : ℕ) → Test (eqb a b) (a ≡ b)
eq_test a b = (eqb-true a b, eq-eqb a b)

phase_test : (p q : Phase) → Test (eqb (stage p) (stage q)) (p ≡ q)
phase_test p q = (λ e. stage_once (eqb-true _ _ e), λ e. eq-eqb _ _ (ap stage e))

dead_test : (t : Bool) → Test (not t) (t ≡ false)
dead_test true = (λ e. absurd (true≢false (sym e)), λ e. absurd (true≢false e))
dead_test false = (λ e. refl, λ e. refl)

not_test : (t : Bool) (P : Type 0) → Test t P → Test (not t) (P → ⊥)
not_test true P h = (λ e. absurd (true≢false (sym e)), λ f. absurd (f (h.0 refl)))
not_test false P h = (λ e x. true≢false (sym (h.1 x)), λ f. refl)

or_test : (t u : Bool) (P Q : Type 0) → Test t P → Test u Q → Test (t || u) (P ⊎ Q)
or_test true u P Q h k = (λ e. inl (h.0 refl), λ e. refl)
or_test false u P Q h k = (λ e. inr (k.0 e), λ x. ⊎_elim (λ p. absurd (true≢false (sym (h.1 p)))) k.1 x)

and_test : (t u : Bool) (P Q : Type 0) → Test t P → Test u Q → Test (t && u) (P × Q)
and_test true u P Q h k = (λ e. (h.0 refl, k.0 e), λ x. k.1 x.1)
and_test false u P Q h k = (λ e. absurd (true≢false (sym e)), λ x. h.1 x.0)

none_left : Outcome [] none
unfolding Outcome
none_left = refl

-- a refusal by its number
abbrev numbered : Option Refusal → Option ℕ
numbered none = none
numbered (some k) = some (number_of k)

-- a check that asks P by the test t, and then the others
module _ (P : Type 0) (cs : List Reason) where
  first : (t : Bool) (k : Refusal) (o : Option Refusal) → Test t P → (t ≡ false → Outcome cs (numbered o)) → Outcome (check (number_of k) P ∷ cs) (numbered (when t k o))
  unfolding Outcome when
  first true k o h f = inl (h.0 refl, refl)
  first false k o h f = inr (λ x. true≢false (sym (h.1 x)), f refl)

-- checks have one outcome
pub outcome_once : (cs : List Reason) (o p : Option ℕ) → Outcome cs o → Outcome cs p → o ≡ p
unfolding Outcome
outcome_once [] o p e f = e ∙ sym f
outcome_once (c ∷ cs) o p (inl x) (inl y) = x.1 ∙ sym y.1
outcome_once (c ∷ cs) o p (inl x) (inr y) = absurd (y.0 x.0)
outcome_once (c ∷ cs) o p (inr x) (inl y) = absurd (x.0 y.0)
outcome_once (c ∷ cs) o p (inr x) (inr y) = outcome_once cs o p x.1 y.1

-- ---- a kind's own checks

module _ (m : State) (c : Came m) where
  -- the prefix and its rule's word
  module _ (l p n t : ℕ) (R : RuleFits m.width l p n t) where
    abbrev w : ℕ
    w = rule_word m.width l p n t

    from_is : lower m.width w ≡ p
    from_is = lower_of R

    to_is : upper m.width w ≡ p + span m.width n
    to_is = upper_of R

    node_is : node_for m w ≡ source_of m l
    node_is = ap (source_of m) (link_of_lem R)

    rank_is : rank m.width w ≡ t
    rank_is = rank_of R

    tie_test : Test (clashes m w) (Ties m l p n t)
    unfolding clashes
    tie_test = (there, back)
      where
        there : clashes m w ≡ true → Ties m l p n t
        there e =
            let x = any_some _ 256 e in
            let alive = and_both _ _ x.2 in
            let node = and_both _ _ alive.1 in
            let priority = and_both _ _ node.1 in
            let shared = (overlap_is m.width (rule_at m x.0) w).0 priority.1 in
            let ours = (covers_is m.width (rule_at m x.0) shared.0).0 shared.1 in
            let theirs = (covers_is m.width w shared.0).0 shared.2 in
            record {
              address = shared.0;
              rule = x.0;
              serves = record { number = x.1; alive = alive.0; here = eqb-true _ _ node.0 ∙ node_is; from = ours.0; below = ours.1 };
              priority = eqb-true _ _ priority.0 ∙ rank_is;
              from = omega (arith, theirs.0, from_is);
              below = omega (arith, theirs.1, to_is);
            }

        back : Ties m l p n t → clashes m w ≡ true
        back y =
            let ours = (covers_is m.width (rule_at m y.rule) y.address).1 (y.serves.from, y.serves.below) in
            let theirs = (covers_is m.width w y.address).1 (omega (arith, y.from, from_is), omega (arith, y.below, to_is)) in
            any_true _ 256 y.rule y.serves.number
            (rw (y.serves.alive, eq-eqb _ _ (y.serves.here ∙ sym node_is), eq-eqb _ _ (y.priority ∙ sym rank_is)) ((overlap_is m.width (rule_at m y.rule) w).1 (y.address, ours, theirs)))

    inner_test : p % span m.width n ≡ 0 → Test (ltb 512 (m.atoms.count + added m w)) (511 < inner_with m p n)
    inner_test flush =
        let e = inner_count m (sound m c).cuts w p n from_is to_is (omega (arith, to_is, within_top m.width p n R.prefix R.long flush)) in
        (λ h. omega (arith, ltb-true 512 (m.atoms.count + added m w) h), λ h. lt-ltb 512 (m.atoms.count + added m w) (omega arith))

  -- THE LAW: the checks of a kind, in their order
  kind_outcome : (r : Record) → Fits m.width (sort_of r) → Outcome (checks_of m r) (numbered (refusal m (sort_of r)))
  unfolding sort_of refusal set_up_refusal update_refusal question_refusal ragged checks_of Fits FitsUpdate
  kind_outcome (Hall n) f = first _ _ _ NoNode none (or_test _ _ _ _ (eq_test n 0) (lt_test 16 n)) (λ z. none_left)
  kind_outcome (Link s d e) f =
      first _ _ _ LinksFull _ (le_test 64 m.plan.links) (λ z.
      first _ _ _ NoNode _ (le_test m.plan.nodes s) (λ z.
      first _ _ _ NoEnd _ (or_test _ _ _ _ (lt_test 2 d) (and_test _ _ _ _ (eq_test d 2) (not_test _ _ (eq_test e 0)))) (λ z.
      first _ _ _ NoNode none (and_test _ _ _ _ (eq_test d 0) (le_test m.plan.nodes e)) (λ z. none_left))))
  kind_outcome Close f = none_left
  kind_outcome (Insert r l p n t) F =
      first _ _ _ NoRule _ (lt_test 255 r) (λ a.
      first _ _ _ RuleLive _ (λ x. x, λ x. x) (λ b.
      first _ _ _ NoLink _ (le_test m.plan.links l) (λ d.
      first _ _ _ NoPrefix _ (or_test _ _ _ _ (lt_test m.width n) (not_test _ _ (eq_test (p % span m.width n) 0))) (λ e.
      let x = or_neither (ltb m.width n) (not (eqb (p % span m.width n) 0)) e in
      let R : RuleFits m.width l p n t =
      record { wide = (sound m c).wide; link = omega (arith, leb-false m.plan.links l d, (sound m c).laid.few); prefix = F.prefix; long = ltb-false m.width n x.0; priority = F.priority } in
      first _ _ _ Tie _ (tie_test l p n t R) (λ g.
      first _ _ _ CutsFull none (inner_test l p n t R (eqb-true _ 0 (not-false _ x.1))) (λ z. none_left))))))
  kind_outcome (Remove r) f = first _ _ _ NoRule _ (lt_test 255 r) (λ z. first _ _ _ RuleNotLive none (dead_test (live (rule_at m r))) (λ z. none_left))
  kind_outcome AskLoop f = none_left
  kind_outcome (AskFate v a) f = first _ _ _ NoNode none (le_test m.plan.nodes v) (λ z. none_left)
  kind_outcome (AskReach v w) f = first _ _ _ NoNode _ (le_test m.plan.nodes v) (λ z. first _ _ _ NoNode none (le_test m.plan.nodes w) (λ z. none_left))
  kind_outcome (AskTally v) f = first _ _ _ NoNode none (le_test m.plan.nodes v) (λ z. none_left)

-- ---- a step's checks

module _ (m : State) where
  -- what is asked is answered by no refusal, and so is what is accepted
  unrefused : (q : Question) → refused_by (by_address m q) ≡ none
  unfolding by_address asked loop_from some_node reach_from refused_by
  unrefused loop = go (lowest_below (top m) (loops_at m))
    where
      node : (a : ℕ) (o : Option ℕ) → refused_by (some_node a o) ≡ none
      node a none = refl
      node a (some v) = refl

      go : (o : Option ℕ) → refused_by (loop_from m o) ≡ none
      go none = refl
      go (some a) = node a (circle_at m a)
  unrefused (fate v a) = refl
  unrefused (reach v w) = go (lowest_below (top m) (reaches_at m v w))
    where
      go : (o : Option ℕ) → refused_by (reach_from o) ≡ none
      go none = refl
      go (some a) = refl
  unrefused (tally v) = refl

  answered : (r : Sort) → refused_by (answers (by_address m) m r) ≡ none
  unfolding answers refused_by
  answered (set_up u) = refl
  answered (update u) = refl
  answered (question q) = unrefused q

  -- the number that a step refuses by, as one chain of tests
  refused_is : (room kind : ℕ) (body : List ℕ) → refused_by (step_of m room (kind ∷ body)).answer
      ≡ numbered (when (ltb room list_room) ShortList (when (not (is_kind kind)) UnknownKind (when (ltb (length (kind ∷ body)) (1 + body_of kind)) CutOff (turned_by m (sort_of (record_of (kind ∷ body)))))))
  unfolding step_of step_with step_for read_of taken only accepted refused_by when
  refused_is room kind body = rw (ne_eqb (length (kind ∷ body)) 0 (λ e. omega arith)) (go (ltb room list_room) (not (is_kind kind)) (ltb (length (kind ∷ body)) (1 + body_of kind)))
    where
      r : Record
      r = record_of (kind ∷ body)

      n : ℕ
      n = 1 + body_of kind

      last : (o : Option Refusal) → refused_by (taken (by_address m) m n (sort_of r) o).answer ≡ numbered o
      last (some k) = refl
      last none = answered (sort_of r)

      go : (a b c : Bool) → refused_by (pick a (only m 0 (Refused ShortList)) (step_for (by_address m) m (pick b (Err UnknownKind) (pick c (Err CutOff) (got r n))))).answer
          ≡ numbered (when a ShortList (when b UnknownKind (when c CutOff (turned_by m (sort_of r)))))
      go true b c = refl
      go false true c = refl
      go false false true = refl
      go false false false = last (turned_by m (sort_of r))

  ended_is : (room : ℕ) → refused_by (step_of m room []).answer ≡ numbered (when (ltb room list_room) ShortList none)
  unfolding step_of step_with step_for read_of only refused_by when
  ended_is room = go (ltb room list_room)
    where
      go : (a : Bool) → refused_by (pick a (only m 0 (Refused ShortList)) (only m 0 End)).answer ≡ numbered (when a ShortList none)
      go true = refl
      go false = refl

  kind_test : (k : ℕ) → Test (not (is_kind k)) ((k ≡ 0) ⊎ (9 < k))
  unfolding is_kind
  kind_test k =
      let t = not_test _ _ (and_test _ _ _ _ (lt_test 0 k) (le_test k 9)) in (
        λ e. ⊎_elim (λ (h : k ≤ 9). inl (⊎_elim (λ (g : k ≤ 0). omega arith) (λ (g : 0 < k). absurd (t.0 e (g, h))) (le_or_lt k 0))) inr (le_or_lt k 9),
        λ x. t.1 (λ y. ⊎_elim (λ (e : k ≡ 0). omega (arith, y.0)) (λ (h : 9 < k). omega (arith, y.1)) x),
      )

  -- THE LAW: a step is refused by the number of the first check that refuses, in the document's order
  pub outcome : Came m → (room : ℕ) (s : List ℕ) → Outcome (checks m room s) (refused_by (step_of m room s).answer)
  unfolding checks
  outcome c room [] = rw (ended_is room) (first _ _ _ ShortList none (lt_test room list_room) (λ z. none_left))
  outcome c room (kind ∷ body) =
      rw (refused_is room kind body)
      (first _ _ _ ShortList _ (lt_test room list_room) (λ z.
      first _ _ _ UnknownKind _ (kind_test kind) (λ z.
      first _ _ _ CutOff _ (λ e. omega (arith, ltb-true (length (kind ∷ body)) (1 + body_of kind) e), λ h. lt-ltb (length (kind ∷ body)) (1 + body_of kind) (omega arith)) (λ z.
      first _ _ _ OutOfOrder _ (not_test _ _ (phase_test m.plan.phase (phase_of (sort_of (record_of (kind ∷ body)))))) (λ z. kind_outcome m c (record_of (kind ∷ body)) (rw (width_is c) (fits (kind ∷ body))))))))
