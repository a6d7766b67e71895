-- The three demands hold. Assumes nothing.
use mathlib.Core.Path.{◌≡◌, refl, sym, ap, ◌∙◌}
use mathlib.Core.Logic.{◌↔◌, ◌⊎◌, inl, inr, ⊎_elim}
use mathlib.Core.Bool.{Bool, true, false}
use mathlib.Core.Option.{Option, none, some}
use mathlib.Core.List.{List}
use Prim.Native.Nat.{ℕ, ◌<◌}
use native.Mathlib.Omega.{arith}
use lib.Dec.{ltb}
use lib.ListN.{length}
use borrow.Author.Tests.{ltb-true, lt-ltb, leb-false}
use Rattle.meaning.specs.declared.Refusal.{Refusal}
use Rattle.meaning.specs.declared.Answer.TheVariants.{Refused, Loop, NoLoop, Went, Yes, No}
use Rattle.meaning.specs.Search.{pick, lowest_below}
use Rattle.meaning.specs.Hall.{top, State, source_of, end_of}
use Rattle.meaning.specs.Rule.{link_of}
use Rattle.meaning.specs.Winner.{rule_at, winner, link_for, next_at}
use Rattle.meaning.specs.Labels.{on, labels_of}
use Rattle.meaning.specs.Questions.{loops_at, circle_at, some_node, loop_from, asked, fate_of, by_address}
use Rattle.meaning.specs.Records.{loop, fate, reach, tally, sort_of}
use Rattle.meaning.specs.Step.{question_refusal, step_of}
use Rattle.meaning.specs.Run.{Came}
use Rattle.meaning.specs.Box.{Left, left_of}
use Rattle.meaning.specs.declared.Record.TheVariants.{Loop as AskLoop, Fate as AskFate, Reach as AskReach, Tally as AskTally}
use Rattle.meaning.proofs.records.Checks.{when_none}
use Rattle.meaning.proofs.records.Fields.{four_bytes}
use Rattle.meaning.proofs.sound.Sound.{top_is}
use Rattle.meaning.proofs.sound.Kept.{sound}
use Rattle.meaning.proofs.walk.Walks.{OnCircle}
use Rattle.meaning.proofs.base.Search.{Lowest}
use Rattle.meaning.proofs.document.Winners.{winner_is}
use Rattle.meaning.proofs.document.Atoms.{InAtom, covered, covered_once, covered_only, numbered, on_words}
use Rattle.meaning.proofs.document.Fates.{fate_exact}
use Rattle.meaning.proofs.document.Questions.{Loops, Comes, loop_some, loop_none, reach_yes, reach_no, tally_counts}
use Rattle.meaning.proofs.records.Steps.{is_ok, quiet_left}
use Rattle.meaning.proofs.document.Runs.{runs, run_stops}
use Rattle.meaning.proofs.rules.Covers.{winner_same}
use Rattle.meaning.proofs.demands.Demands.{checks, Stands, Demand1, Names, Asks, Demand2, Demand3}
use Rattle.meaning.proofs.demands.Accepted.{end_is, asked_passes, asked_is}
use Rattle.meaning.proofs.demands.Reasons.{outcome, outcome_once}
use Rattle.meaning.proofs.demands.Declared.{has_nodes, has_close, link_stands, link_declared}
use Rattle.meaning.proofs.demands.InForce.{in_force}
use Rattle.meaning.proofs.demands.Twins.{twin_rules, twin_links, fates_same, same_asked, twins_same}
use Rattle.meaning.proofs.demands.ChangedAddresses.{changes_listed, twins_after, same_listed}
use Rattle.meaning.proofs.demands.EitherOrder.{swapped_twins, swapped_cutting, swapped_later}
use Rattle.meaning.proofs.base.Order.{clash}

-- ---- demand 1

stood : (m : State) (list s : List ℕ) (k : Refusal) → (step_of m (length list) s).answer ≡ Refused k → Stands m list (left_of m list s)
stood m list s k e =
    let q = quiet_left m list s (ap is_ok e ∙ (unfold is_ok in refl)) in
    record { state = ap (λ (x : Left). x.state) q; label = ap (λ (x : Left). x.label) q; owner = ap (λ (x : Left). x.owner) q; lent = ap (λ (x : Left). x.list) q }

pub demand_1 : Demand1
demand_1 = record {
  ends = runs;
  stops = λ list s. (run_stops list s).stops;
  reason = outcome;
  no_other = λ m room s. outcome_once (checks m room s);
  end = end_is;
  stands = stood;
}

-- ---- demand 2

module _ (m : State) (c : Came m) where
  -- the next link is the winner's
  next_names : (v a l : ℕ) → (next_at m a v ≡ some l) ↔ Names m v a l
  unfolding next_at link_for
  next_names v a l = (go (ltb (winner m v a) 256) refl, back)
    where
      go : (t : Bool) → ltb (winner m v a) 256 ≡ t → pick t (some (link_of m.width (rule_at m (winner m v a)))) none ≡ some l → Names m v a l
      go true h e = (winner m v a, (winner_is m v a (sound m c) (winner m v a) (ltb-true _ _ h)).0 refl, cc)
      go false h e = clash cc

      back : Names m v a l → pick (ltb (winner m v a) 256) (some (link_of m.width (rule_at m (winner m v a)))) none ≡ some l
      back (w, o, e) = let q = (winner_is m v a (sound m c) w o.serves.number).1 o in rw (q, lt-ltb w 256 o.serves.number, e)

  labelled : (l k : ℕ) → l < m.plan.links → k < m.atoms.count → (on (labels_of m) l k ≡ true) ↔ ((a : ℕ) → InAtom m k a → Names m (source_of m l) a l)
  labelled l k hl hk =
      let w = on_words m (sound m c) l k (omega (arith, (sound m c).laid.few)) hk in
      (λ e a x. (next_names (source_of m l) a l).0 (w.0 e a x), λ f. w.1 (λ a x. (next_names (source_of m l) a l).1 (f a x)))

  has_address : (k : ℕ) → (k < m.atoms.count) ↔ ((a : ℕ) × (a < top m) × InAtom m k a)
  has_address k = let n = numbered m (sound m c) k in (λ h. let x = n.0 h in (x.0, covered_only m (sound m c) k x.0 x.1, x.1), λ x. n.1 (x.0, x.2))

  -- the answer to loop is one of two
  loop_or_none : ((a v : ℕ) × (by_address m loop ≡ Loop a v)) ⊎ (by_address m loop ≡ NoLoop)
  unfolding by_address asked loop_from some_node
  loop_or_none = go (lowest_below (top m) (loops_at m))
    where
      node : (b : ℕ) (o : Option ℕ) → ((a v : ℕ) × (some_node b o ≡ Loop a v)) ⊎ (some_node b o ≡ NoLoop)
      node b none = inr refl
      node b (some v) = inl (b, v, refl)

      go : (o : Option ℕ) → ((a v : ℕ) × (loop_from m o ≡ Loop a v)) ⊎ (loop_from m o ≡ NoLoop)
      go none = inr refl
      go (some b) = node b (circle_at m b)

  module _ (room : ℕ) (s : List ℕ) where
    loop_is : Asks m room s AskLoop → (step_of m room s).answer ≡ by_address m loop
    loop_is A = asked_is m room s AskLoop A loop (unfold sort_of in refl)

    loop_found : Asks m room s AskLoop → ((a v : ℕ) × ((step_of m room s).answer ≡ Loop a v)) ↔ ((a : ℕ) × (a < top m) × Loops m a)
    loop_found A = (
      λ x. let y = (loop_some m (sound m c) x.0 x.1).0 (sym (loop_is A) ∙ x.2) in (x.0, y.0.within, y.0.has),
      λ x. ⊎_elim (λ y. (y.0, y.1, loop_is A ∙ y.2)) (λ (e : by_address m loop ≡ NoLoop). absurd ((loop_none m (sound m c)).0 e x.0 x.1 x.2)) loop_or_none,
    )

    no_loop : Asks m room s AskLoop → ((step_of m room s).answer ≡ NoLoop) ↔ ((a : ℕ) → a < top m → Loops m a → ⊥)
    no_loop A = (λ e. (loop_none m (sound m c)).0 (sym (loop_is A) ∙ e), λ f. loop_is A ∙ (loop_none m (sound m c)).1 f)

    loop_lowest : (a v : ℕ) → Asks m room s AskLoop → (step_of m room s).answer ≡ Loop a v → Lowest (top m) (Loops m) a × Lowest m.plan.nodes (OnCircle (next_at m a) (end_of m)) v
    loop_lowest a v A e = (loop_some m (sound m c) a v).0 (sym (loop_is A) ∙ e)

    fate_asked : (v a : ℕ) → Asks m room s (AskFate v a) → (step_of m room s).answer ≡ Went (fate_of m v a)
    unfolding by_address asked
    fate_asked v a A = asked_is m room s (AskFate v a) A (fate v a) (unfold sort_of in refl)

    module _ (v w : ℕ) (A : Asks m room s (AskReach v w)) where
      reach_is : (step_of m room s).answer ≡ by_address m (reach v w)
      reach_is = asked_is m room s (AskReach v w) A (reach v w) (unfold sort_of in refl)

      from_node : v < m.plan.nodes
      unfolding question_refusal
      from_node = leb-false m.plan.nodes v (when_none _ _ _ (asked_passes m room s (AskReach v w) A (reach v w) (unfold sort_of in refl))).0

      reach_found : (a : ℕ) → ((step_of m room s).answer ≡ Yes a) ↔ Lowest (top m) (Comes m v w) a
      reach_found a = let y = reach_yes m (sound m c) v w from_node a in (λ e. y.0 (sym reach_is ∙ e), λ x. reach_is ∙ y.1 x)

      no_reach : ((step_of m room s).answer ≡ No) ↔ ((a : ℕ) → a < top m → Comes m v w a → ⊥)
      no_reach = let y = reach_no m (sound m c) v w from_node in (λ e. y.0 (sym reach_is ∙ e), λ x. reach_is ∙ y.1 x)

pub demand_2 : Demand2
demand_2 = record {
  addresses = λ c. top_is c ∙ sym four_bytes;
  hall_is = λ {m} c. has_nodes m c;
  close_is = λ {m} c. has_close m c;
  link_is = λ {m} c. link_stands m c;
  linked = λ {m} c. link_declared m c;
  rules = λ {m} c. in_force m c;
  covers = λ {m} c. covered m (sound m c);
  once = λ {m} c. covered_once m (sound m c);
  atoms = λ {m} c. has_address m c;
  labels = λ {m} c. labelled m c;
  reported = λ {m} c. loop_found m c;
  unreported = λ {m} c. no_loop m c;
  witness = λ {m} c. loop_lowest m c;
  way = λ {m} c. next_names m c;
  fate_is = λ {m} c. fate_exact m (sound m c);
  fate_told = λ {m} c. fate_asked m c;
  reach_yes = λ {m} c. reach_found m c;
  reach_no = λ {m} c. no_reach m c;
  tally_told = λ {m} c room s v A. asked_is m room s (AskTally v) A (tally v) (unfold sort_of in refl) ∙ tally_counts m v;
}

-- ---- demand 3

pub demand_3 : Demand3
demand_3 = record {
  same_winner = λ {m} {n} T. winner_same (twins_same m n T);
  same_fate = λ {m} {n} T. fates_same m n (twins_same m n T) T.nodes;
  same_answer = λ {m} {n} T. same_asked m n T;
  changes = λ {m} c. changes_listed m c;
  same_changes = λ {m} {n} T. same_listed m n T;
  same_after = λ {m} {n} T. twins_after m n T;
  only = λ {m} {n} T. (twin_links m n T, twin_rules m n T);
  same_rules = swapped_twins;
  same_cutting = swapped_cutting;
  same_later = swapped_later;
}
