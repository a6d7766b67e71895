-- Two histories that end with the same live rules, part by part, end with the same words: so every winner, fate and answer is the same.
-- Assumes nothing.
use mathlib.Core.Path.{◌≡◌, refl, sym, ap, ◌∙◌}
use mathlib.Core.Logic.{◌↔◌, ◌⊎◌, inl, inr, ⊎_elim}
use mathlib.Core.Bool.{Bool, true, false, true≢false}
use mathlib.Core.Option.{Option, none, some}
use mathlib.Core.List.{List, []}
use Prim.Native.Nat.{ℕ, ◌≤◌, ◌<◌}
use native.Mathlib.Decide.{ℕ_discrete}
use native.Mathlib.Omega.{arith}
use lib.ListN.{length, get_or, set}
use lib.Seq.{ext_get_or, get_or-set_same, get_or-set_other, set_out}
use Rattle.meaning.specs.Search.{lowest_below}
use Rattle.meaning.specs.declared.hall.Phase.TheVariants.{Bare, Closed}
use Rattle.meaning.specs.Hall.{top, Plan, State, empty, fresh, source_of, end_of}
use Rattle.meaning.specs.Rule.{rule_word, live, link_of, length_of, rank, lower}
use Rattle.meaning.specs.Winner.{rule_at, eligible, winner, link_for, next_at}
use Rattle.meaning.specs.Atoms.{with_cut}
use Rattle.meaning.specs.Questions.{fate_of, loops_at, circle_at, loop_from, reaches_at, asked, by_address}
use Rattle.meaning.specs.Records.{Update, insert, remove, Question, loop, fate, reach, tally, Sort, set_up, update, question, is_question}
use Rattle.meaning.specs.Step.{list_room, Done, update_refusal, with_rule, inserted, updated, question_refusal, refusal, turned_by, leaves, only, answers, accepted, step_of}
use Rattle.meaning.specs.Run.{Came, start}
use Rattle.meaning.specs.Tables.{Sound}
use Rattle.meaning.proofs.base.Order.{le_or_lt}
use Rattle.meaning.proofs.rules.Words.{RuleFits, link_of_lem, rank_of, lower_of, length_of_lem, free_zero}
use Rattle.meaning.proofs.records.Fields.{FitsUpdate, Fits}
use Rattle.meaning.proofs.sound.Sound.{width_is, came_keeps}
use Rattle.meaning.proofs.records.Checks.{clear}
use Rattle.meaning.proofs.sound.Kept.{rule_fits, keeps, sound}
use Rattle.meaning.proofs.demands.Demands.{Twins}
use Rattle.meaning.proofs.demands.Accepted.{sorted, any_room, both_step}
use Rattle.meaning.proofs.rules.Covers.{SameRules}

-- ---- a live rule's word is the word of its parts

abbrev Packed : ℕ → ℕ → Type 0
Packed width w = rule_word width (link_of width w) (lower width w) (length_of width w) (rank width w) ≡ w

-- every live rule's is
abbrev Packs : State → Type 0
Packs m = (i : ℕ) → live (rule_at m i) ≡ true → Packed m.width (rule_at m i)

packed : {width l p n t : ℕ} → RuleFits width l p n t → Packed width (rule_word width l p n t)
packed R = rw (link_of_lem R, lower_of R, length_of_lem R, rank_of R)

-- a rule is the one stored, or as it was
at_set : (rules : List ℕ) (r w i : ℕ) → (get_or (set rules r w) i 0 ≡ w) ⊎ (get_or (set rules r w) i 0 ≡ get_or rules i 0)
at_set rules r w i = go (ℕ_discrete i r) (le_or_lt (length rules) r)
  where
    go : Dec (i ≡ r) → (length rules ≤ r) ⊎ (r < length rules) → (get_or (set rules r w) i 0 ≡ w) ⊎ (get_or (set rules r w) i 0 ≡ get_or rules i 0)
    go (no h) x = inr (get_or-set_other rules r i w 0 h)
    go (yes e) (inl h) = inr (ap (λ (rs : List ℕ). get_or rs i 0) (set_out rules r w h))
    go (yes e) (inr h) = inl (ap (λ (j : ℕ). get_or (set rules r w) j 0) e ∙ get_or-set_same rules r w 0 h)

module _ (m : State) (S : Sound m) (P : Packs m) where
  packs_set : (rules : List ℕ) (r w : ℕ) → rules ≡ set m.rule r w → (live w ≡ true → Packed m.width w) → (i : ℕ) → live (get_or rules i 0) ≡ true → Packed m.width (get_or rules i 0)
  unfolding rule_at
  packs_set rules r w q f i =
      ⊎_elim (λ (e : get_or (set m.rule r w) i 0 ≡ w). rw (q, e) f) (λ (e : get_or (set m.rule r w) i 0 ≡ get_or m.rule i 0). rw (q, e) (P i)) (at_set m.rule r w i)

  packs_update : (u : Update) → FitsUpdate m.width u → update_refusal m u ≡ none → Packs (updated m u)
  unfolding updated inserted with_rule with_cut rule_at FitsUpdate live
  packs_update (insert r l p n t) f ok = packs_set _ r (rule_word m.width l p n t) refl (λ e. packed (rule_fits S f (clear m r l p n t ok)))
  packs_update (remove r) f ok = packs_set _ r 0 refl (λ e. absurd (true≢false (sym e)))

  packs_one : (r : Sort) → Fits m.width r → refusal m r ≡ none → Packs (leaves m r)
  unfolding refusal leaves Fits
  packs_one (set_up u) f ok = unfold rule_at in P
  packs_one (update u) f ok = packs_update u f ok
  packs_one (question q) f ok = P

packs : (m : State) → Came m → Packs m
packs m c = (kept m c).1
  where
    kept : (m : State) → Came m → Sound m × Packs m
    kept = came_keeps (λ m. Sound m × Packs m) (sound fresh start, λ i e. absurd (true≢false (sym e ∙ (sound fresh start).idle (unfold empty in omega arith) i)))
        (λ m r h f ph ok. (keeps m r h.0 f ph ok, packs_one m h.0 h.1 r f ok))

-- ---- the same words

module _ (m n : State) (T : Twins m n) where
  S : Sound m
  S = sound m T.came.0

  R : Sound n
  R = sound n T.came.1

  pub twin_width : m.width ≡ n.width
  twin_width = width_is T.came.0 ∙ sym (width_is T.came.1)

  pub twin_links : m.plan.link ≡ n.plan.link
  unfolding source_of end_of
  twin_links =
      ext_get_or 0 m.plan.link n.plan.link (S.laid.long ∙ sym R.laid.long)
      (λ l h. ⊎_elim (λ (g : m.plan.links ≤ l). S.laid.unused l g ∙ sym (R.laid.unused l (omega (arith, T.links)))) (λ (g : l < m.plan.links). omega (arith, T.source l g, T.end l g)) (le_or_lt m.plan.links l))

  pub twin_plan : m.plan ≡ n.plan
  twin_plan = λ i. record { phase = (T.closed.0 ∙ sym T.closed.1) i; nodes = T.nodes i; links = T.links i; link = twin_links i }

  same_word : (i : ℕ) → i < 256 → rule_at m i ≡ rule_at n i
  same_word i h = go (live (rule_at m i)) refl
    where
      go : (t : Bool) → live (rule_at m i) ≡ t → rule_at m i ≡ rule_at n i
      go false e = free_zero _ e ∙ sym (free_zero _ (sym (T.number i h) ∙ e))
      go true e =
          let q = T.rule i h e in
          sym (packs m T.came.0 i e) ∙ rw (q.link, q.prefix, q.long, q.priority, twin_width) (packs n T.came.1 i (sym (T.number i h) ∙ e))

  pub twin_rules : m.rule ≡ n.rule
  unfolding rule_at
  twin_rules = ext_get_or 0 m.rule n.rule (S.rules ∙ sym R.rules) (λ i h. same_word i (omega (arith, S.rules)))

  pub twins_same : SameRules m n
  twins_same = record { width = twin_width; rule = twin_rules; link = twin_links }

-- and the other way round
pub twins : (m n : State) → Came m → Came n → m.plan.phase ≡ Closed → m.plan ≡ n.plan → m.rule ≡ n.rule → Twins m n
unfolding source_of end_of rule_at
twins m n c d closed plan rule = record {
  came = (c, d);
  closed = (closed, ap (λ (p : Plan). p.phase) (sym plan) ∙ closed);
  nodes = ap (λ (p : Plan). p.nodes) plan;
  links = ap (λ (p : Plan). p.links) plan;
  source = λ l h. rw plan;
  end = λ l h. rw plan;
  number = λ i h. rw rule;
  rule = λ i h e. record { prefix = rw (rule, w); long = rw (rule, w); priority = rw (rule, w); link = rw (rule, w) };
}
  where
    w : m.width ≡ n.width
    w = width_is c ∙ sym (width_is d)

-- ---- the same answers

-- what a question sees of a state
plain : State → State
plain m = record {
  width = m.width;
  plan = record { phase = Bare; nodes = m.plan.nodes; links = 0; link = m.plan.link };
  rule = m.rule;
  atoms = record { count = 0; cut = []; number = [] };
}

sees : (m : State) (q : Question) → by_address m q ≡ by_address (plain m) q
unfolding by_address asked loops_at circle_at reaches_at fate_of next_at link_for winner eligible rule_at source_of end_of plain loop_from
sees m loop = go (lowest_below (top m) (loops_at m))
  where
    go : (o : Option ℕ) → loop_from m o ≡ loop_from (plain m) o
    go none = refl
    go (some a) = refl
sees m (fate v a) = refl
sees m (reach v w) = refl
sees m (tally v) = refl

module _ (m n : State) (same : SameRules m n) (nodes : m.plan.nodes ≡ n.plan.nodes) where
  same_plain : plain m ≡ plain n
  unfolding plain
  same_plain = rw (same.width, same.rule, same.link, nodes)

  -- THE LAW: the answers are read off the nodes, the links and the rules alone
  pub answers_same : (q : Question) → by_address m q ≡ by_address n q
  answers_same q = sees m q ∙ ap (λ (o : State). by_address o q) same_plain ∙ sym (sees n q)

  pub fates_same : (v a : ℕ) → fate_of m v a ≡ fate_of n v a
  fates_same v a = seen m ∙ ap (λ (o : State). fate_of o v a) same_plain ∙ sym (seen n)
    where
      seen : (o : State) → fate_of o v a ≡ fate_of (plain o) v a
      seen o = unfold fate_of next_at link_for winner eligible rule_at source_of end_of plain in refl

-- ---- a question's step

module _ (m n : State) (T : Twins m n) where
  same_turned : (r : Sort) → is_question r ≡ true → turned_by m r ≡ turned_by n r
  unfolding is_question refusal
  same_turned (set_up u) e = absurd (true≢false (sym e))
  same_turned (update u) e = absurd (true≢false (sym e))
  same_turned (question q) e = rw (go q, T.closed.0, T.closed.1)
    where
      go : (q : Question) → question_refusal m.plan q ≡ question_refusal n.plan q
      go loop = unfold question_refusal in refl
      go (fate v a) = unfold question_refusal in rw T.nodes
      go (reach v w) = unfold question_refusal in rw T.nodes
      go (tally v) = unfold question_refusal in rw T.nodes

  same_reply : (k : ℕ) (r : Sort) → is_question r ≡ true → (accepted (by_address m) m k r).answer ≡ (accepted (by_address n) n k r).answer
  unfolding is_question accepted answers
  same_reply k (set_up u) e = absurd (true≢false (sym e))
  same_reply k (update u) e = absurd (true≢false (sym e))
  same_reply k (question q) e = answers_same m n (twins_same m n T) T.nodes q

  -- THE LAW: every question has the same answer and witness
  pub same_asked : (room room' : ℕ) → ((room < list_room) ↔ (room' < list_room)) → (s : List ℕ) → is_question (sorted s) ≡ true → (step_of m room s).answer ≡ (step_of n room' s).answer
  same_asked room room' f s e =
      both_step (λ d e. d.answer ≡ e.answer) m n room s (λ k a u. unfold only in refl) (same_turned (sorted s) e) (λ k q. same_reply k (sorted s) e)
      ∙ ap (λ (d : Done). d.answer) (any_room n room room' s f)
