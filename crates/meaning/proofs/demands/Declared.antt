-- The hall and the links after any records are those that the accepted hall and link records declared. Assumes nothing.
use mathlib.Core.Path.{sym, ◌≡◌, refl, ap, ◌∙◌}
use mathlib.Core.Logic.{◌↔◌, ◌⊎◌, inl, inr, ⊎_elim}
use mathlib.Core.Option.{none}
use mathlib.Core.List.{List}
use Prim.Native.Nat.{ℕ, ◌+◌, ◌*◌, ◌/◌, ◌%◌, ◌<◌}
use native.Mathlib.Nat.{not-suc-le-zero}
use native.Mathlib.Decide.{ℕ_discrete}
use native.Mathlib.Omega.{arith}
use lib.ListN.{length, get_or}
use lib.Seq.{get_or-set_same, get_or-set_other}
use borrow.Author.Tests.{eqb-true, not-false}
use Rattle.meaning.specs.declared.Answer.{Answer}
use Rattle.meaning.specs.declared.Answer.TheVariants.{Ok}
use Rattle.meaning.specs.declared.Record.{Record}
use Rattle.meaning.specs.declared.hall.Phase.TheVariants.{Closed}
use Rattle.meaning.specs.Hall.{stage, Plan, State, empty, source_of, end_of, link_word}
use Rattle.meaning.specs.Atoms.{with_cut}
use Rattle.meaning.specs.Questions.{by_address}
use Rattle.meaning.specs.Records.{SetUp, hall, link, close, Update, insert, remove, Sort, set_up, update, question, sort_of, set_up_phase, phase_of}
use Rattle.meaning.specs.Step.{Done, set_up_refusal, planned, with_rule, inserted, updated, refusal, turned_by, leaves, only, answers, accepted, step_of}
use Rattle.meaning.specs.Run.{Came, start, more}
use Rattle.meaning.specs.declared.Record.TheVariants.{Hall, Link, Close}
use Rattle.meaning.proofs.base.Stages.{stage_once}
use Rattle.meaning.proofs.records.Fields.{FitsSetUp, Fits, fits}
use Rattle.meaning.proofs.records.Sorts.{record_for, sorted_as, before_close}
use Rattle.meaning.proofs.records.Checks.{when_none, clear_link}
use Rattle.meaning.proofs.sound.Kept.{sound}
use Rattle.meaning.proofs.demands.Demands.{refused_by, then, Takes, HasNodes, HasLink, HasClose}
use Rattle.meaning.proofs.demands.Accepted.{sorted, Unmoved, both_step, Took, accepts}
use Rattle.meaning.proofs.base.Order.{clash}

-- ---- what a step declares

-- the step d of the bytes s is that of an accepted set-up record
record Sets (m : State) (s : List ℕ) (u : SetUp) (d : Done) : Type 0 where
  is : sorted s ≡ set_up u
  ok : d.answer ≡ Ok
  phase : m.plan.phase ≡ set_up_phase u
  passes : set_up_refusal m.plan u ≡ none
  plan : d.left.plan ≡ planned m.plan u

-- a step is so, or it leaves the plan
PlanFork : State → List ℕ → Done → Type 0
PlanFork m s d = ((u : SetUp) × Sets m s u d) ⊎ (d.left.plan ≡ m.plan)

module _ (m : State) (s : List ℕ) where
  update_plan : (u : Update) → (updated m u).plan ≡ m.plan
  unfolding updated inserted with_rule with_cut
  update_plan (insert r l p n t) = refl
  update_plan (remove r) = refl

  plan_only : (k : ℕ) (a : Answer) → Unmoved a → PlanFork m s (only m k a)
  unfolding PlanFork only
  plan_only k a x = inr refl

  plan_taken : (n : ℕ) (r : Sort) → sorted s ≡ r → turned_by m r ≡ none → PlanFork m s (accepted (by_address m) m n r)
  unfolding PlanFork accepted answers refusal leaves phase_of
  plan_taken n (set_up u) e q = let y = when_none _ _ _ q in inl (u, record { is = e; ok = refl; phase = stage_once (eqb-true _ _ (not-false _ y.0)); passes = y.1; plan = refl })
  plan_taken n (update u) e q = inr (update_plan u)
  plan_taken n (question x) e q = inr refl

  plan_fork : (room : ℕ) → PlanFork m s (step_of m room s)
  plan_fork room = both_step (λ d e. PlanFork m s d) m m room s plan_only refl (λ k q. plan_taken k (sorted s) refl q)

module _ (m : State) (room : ℕ) (s : List ℕ) where
  -- a record that is taken is so
  sets_it : (r : Record) → Takes m room s r → (u : SetUp) → sort_of r ≡ set_up u → Sets m s u (step_of m room s)
  unfolding refusal leaves phase_of accepted
  sets_it r T u e = record {
    is = sorted_is;
    ok = T.ok;
    phase = took.phase ∙ ap phase_of sorted_is;
    passes = rw sorted_is at took.passes;
    plan = ap (λ (d : Done). d.left.plan) took.is ∙ ap (λ (x : Sort). (leaves m x).plan) sorted_is;
  }
    where
      took : Took m s (step_of m room s)
      took = accepts m room s (ap refused_by T.ok ∙ (unfold refused_by in refl)) (λ e. clash (cc T.ok))

      sorted_is : sorted s ≡ set_up u
      sorted_is = ap sort_of T.record_is ∙ e

  -- and the other way round
  takes_it : {u : SetUp} → Sets m s u (step_of m room s) → Takes m room s (record_for (set_up u))
  takes_it x = record { record_is = sorted_as x.is; ok = x.ok }

-- ---- the hall

-- there are n nodes
abbrev Nodes : Plan → ℕ → Type 0
Nodes p n = (0 < stage p.phase) × (p.nodes ≡ n)

-- a set-up record brings the nodes in, or there are those that there were
module _ (p : Plan) (n : ℕ) where
  nodes_kept : (u : SetUp) → p.phase ≡ set_up_phase u → Nodes p n → Nodes (planned p u) n
  unfolding planned set_up_phase
  nodes_kept (hall k) ph x = absurd (omega (arith, ap stage ph, x.0))
  nodes_kept (link a k e) ph x = x
  nodes_kept close ph x = (omega arith, x.1)

  nodes_from : (u : SetUp) → p.phase ≡ set_up_phase u → Nodes (planned p u) n → (u ≡ hall n) ⊎ Nodes p n
  unfolding planned set_up_phase
  nodes_from (hall k) ph x = inl (ap hall x.1)
  nodes_from (link a k e) ph x = inr x
  nodes_from close ph x = inr (omega (arith, ap stage ph), x.1)

-- THE LAW: there are n nodes exactly when a hall of n nodes was accepted
pub has_nodes : (m : State) (c : Came m) (n : ℕ) → HasNodes c n ↔ ((0 < stage m.plan.phase) × (m.plan.nodes ≡ n))
unfolding HasNodes PlanFork record_for
has_nodes m start n = (λ h. absurd h, λ x. absurd (unfold empty in not-suc-le-zero x.0))
has_nodes m (more {m = o} room s c) n = let was = has_nodes o c n in (there was.0 (plan_fork o s room), back was.1 (plan_fork o s room))
  where
    there : (HasNodes c n → Nodes o.plan n) → PlanFork o s (step_of o room s) → Takes o room s (Hall n) ⊎ HasNodes c n → Nodes (then o room s).plan n
    there was f (inl T) = rw (sets_it o room s (Hall n) T (hall n) (unfold sort_of in refl)).plan (unfold planned in (omega arith, refl))
    there was (inl (u, x)) (inr h) = rw x.plan (nodes_kept o.plan n u x.phase (was h))
    there was (inr e) (inr h) = rw e (was h)

    back : (Nodes o.plan n → HasNodes c n) → PlanFork o s (step_of o room s) → Nodes (then o room s).plan n → Takes o room s (Hall n) ⊎ HasNodes c n
    back was (inl (u, x)) y =
        ⊎_elim (λ (e : u ≡ hall n). inl (rw e at (takes_it o room s x))) (λ z. inr (was z)) (nodes_from o.plan n u x.phase (rw x.plan at y))
    back was (inr e) y = inr (was (rw e at y))

-- ---- the close

module _ (p : Plan) where
  close_from : (u : SetUp) → p.phase ≡ set_up_phase u → (planned p u).phase ≡ Closed → u ≡ close
  unfolding planned set_up_phase
  close_from (hall k) ph x = absurd (omega (arith, ap stage x))
  close_from (link a k e) ph x = absurd (omega (arith, ap stage (sym ph ∙ x)))
  close_from close ph x = refl

-- THE LAW: the hall is closed exactly when a close was accepted
pub has_close : (m : State) (c : Came m) → HasClose c ↔ (m.plan.phase ≡ Closed)
unfolding HasClose PlanFork record_for
has_close m start = (λ h. absurd h, λ e. absurd (unfold empty in omega (arith, ap stage e)))
has_close m (more {m = o} room s c) = let was = has_close o c in (there was.0 (plan_fork o s room), back was.1 (plan_fork o s room))
  where
    there : (HasClose c → o.plan.phase ≡ Closed) → PlanFork o s (step_of o room s) → Takes o room s Close ⊎ HasClose c → (then o room s).plan.phase ≡ Closed
    there was f (inl T) = rw (sets_it o room s Close T close (unfold sort_of in refl)).plan (unfold planned in refl)
    there was (inl (u, x)) (inr h) = absurd (omega (arith, before_close u, ap stage x.phase, ap stage (was h)))
    there was (inr e) (inr h) = rw e (was h)

    back : (o.plan.phase ≡ Closed → HasClose c) → PlanFork o s (step_of o room s) → (then o room s).plan.phase ≡ Closed → Takes o room s Close ⊎ HasClose c
    back was (inl (u, x)) h = inl (rw (close_from o.plan u x.phase (rw x.plan at h)) at (takes_it o room s x))
    back was (inr e) h = inr (was (rw e at h))

-- ---- the links

-- link l has the source a and the end e of code k
abbrev Linked : Plan → ℕ → ℕ → ℕ → ℕ → Type 0
Linked p l a k e = (l < p.links) × (get_or p.link l 0 / 1024 ≡ a) × (get_or p.link l 0 % 1024 ≡ k * 256 + e)

module _ (p : Plan) where
  -- a set-up record keeps the links that there were
  link_kept : (u : SetUp) (l a k e : ℕ) → Linked p l a k e → Linked (planned p u) l a k e
  unfolding planned
  link_kept (hall n) l a k e x = x
  link_kept (link s c d) l a k e x = rw (get_or-set_other p.link p.links l (link_word s (c * 256 + d)) 0 (λ q. omega (arith, x.0))) (omega (arith, x.0), x.1, x.2)
  link_kept close l a k e x = x

  -- and a link record brings its own in
  link_new : length p.link ≡ 64 → (a k e : ℕ) → e < 256 → set_up_refusal p (link a k e) ≡ none → Linked (planned p (link a k e)) p.links a k e
  unfolding planned link_word
  link_new long a k e small ok =
      let fine = clear_link p a k e ok in
      rw (get_or-set_same p.link p.links (a * 1024 + (k * 256 + e)) 0 (omega (arith, fine.room))) (omega arith, omega (arith, fine.code), omega (arith, fine.code))

-- THE LAW: a link has the source and the end that it was declared with
pub link_stands : (m : State) (c : Came m) (l a k e : ℕ) → HasLink c l a k e → (l < m.plan.links) × (source_of m l ≡ a) × (end_of m l ≡ k * 256 + e)
unfolding HasLink PlanFork source_of end_of Fits FitsSetUp sort_of
link_stands m start l a k e h = absurd h
link_stands m (more {m = o} room s c) l a k e (inl (q, T)) =
    let x = sets_it o room s (Link a k e) T (link a k e) refl in
    rw (x.plan, ← q) (link_new o.plan (sound o c).laid.long a k e (rw x.is at (fits s)) x.passes)
link_stands m (more {m = o} room s c) l a k e (inr h) = go (plan_fork o s room) (link_stands o c l a k e h)
  where
    go : PlanFork o s (step_of o room s) → Linked o.plan l a k e → Linked (then o room s).plan l a k e
    go (inl (u, x)) y = rw x.plan (link_kept o.plan u l a k e y)
    go (inr q) y = rw q y

-- a link that a set-up record leaves is its own, or was there
module _ (p : Plan) (l : ℕ) where
  record Brings (u : SetUp) : Type 0 where
    last : p.links ≡ l
    source : ℕ
    code : ℕ
    end : ℕ
    is : u ≡ link source code end

  link_from : (u : SetUp) → l < (planned p u).links → Dec (p.links ≡ l) → Brings u ⊎ (l < p.links)
  unfolding planned
  link_from (hall n) h d = inr h
  link_from (link a k e) h (yes q) = inl (record { last = q; source = a; code = k; end = e; is = refl })
  link_from (link a k e) h (no q) = inr (omega arith)
  link_from close h d = inr h

-- THE LAW: every link was declared
pub link_declared : (m : State) (c : Came m) (l : ℕ) → l < m.plan.links → (a k e : ℕ) × HasLink c l a k e
unfolding HasLink PlanFork record_for
link_declared m start l h = absurd (unfold empty in not-suc-le-zero h)
link_declared m (more {m = o} room s c) l h = go (plan_fork o s room) (λ g. link_declared o c l g)
  where
    go : PlanFork o s (step_of o room s) → (l < o.plan.links → (a k e : ℕ) × HasLink c l a k e)
        → (a k e : ℕ) × (((o.plan.links ≡ l) × Takes o room s (Link a k e)) ⊎ HasLink c l a k e)
    go (inl (u, x)) was =
        ⊎_elim (λ (b : Brings o.plan l u). (b.source, b.code, b.end, inl (b.last, rw b.is at (takes_it o room s x))))
        (λ (g : l < o.plan.links). let y = was g in (y.0, y.1, y.2, inr y.3))
        (link_from o.plan l u (rw x.plan at h) (ℕ_discrete o.plan.links l))
    go (inr q) was = let y = was (rw q at h) in (y.0, y.1, y.2, inr y.3)
