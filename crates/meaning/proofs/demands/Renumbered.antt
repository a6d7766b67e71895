-- States that differ in their atoms' numbers only: every step of theirs is answered alike, and the states left differ in these numbers only.
-- Assumes nothing.
use mathlib.Core.Path.{◌≡◌, ◌∙◌, refl, ap}
use mathlib.Core.List.{List, [], ◌∷◌}
use Prim.Native.Nat.{ℕ}
use lib.ListN.{length}
use Rattle.meaning.specs.declared.Answer.{Answer}
use Rattle.meaning.specs.declared.Answer.TheVariants.{Changed}
use Rattle.meaning.specs.Hall.{State, source_of}
use Rattle.meaning.specs.Winner.{rule_at, eligible, winner, link_for, next_at}
use Rattle.meaning.specs.Atoms.{with_cut}
use Rattle.meaning.specs.Changes.{changed_at, changed_places, entry_at, entries_at}
use Rattle.meaning.specs.Questions.{by_address}
use Rattle.meaning.specs.Records.{Update, insert, remove, Sort, set_up, update, question}
use Rattle.meaning.specs.Step.{Done, clashes, added, update_refusal, with_rule, inserted, updated, node_of, listed, changes, refusal, turned_by, leaves, writes, only, answers, accepted, step_of}
use Rattle.meaning.proofs.atoms.ChangeList.{places_same}
use Rattle.meaning.proofs.rules.Covers.{SameRules}
use Rattle.meaning.proofs.demands.Demands.{SameEntries, empty, entry, SameStep, Call, since}
use Rattle.meaning.proofs.demands.Twins.{answers_same}
use Rattle.meaning.proofs.demands.Accepted.{sorted, Unmoved, both_step}
use Rattle.meaning.proofs.demands.ChangedAddresses.{node_same}

-- the state with other numbers
unfoldable pub renumbered : State → List ℕ → State
renumbered m numbers = record { width = m.width; plan = m.plan; rule = m.rule; atoms = record { count = m.atoms.count; cut = m.atoms.cut; number = numbers } }

-- all but the numbers is the same
pub record Alike (m n : State) : Type 0 where
  pub width : m.width ≡ n.width
  pub plan : m.plan ≡ n.plan
  pub rule : m.rule ≡ n.rule
  pub count : m.atoms.count ≡ n.atoms.count
  pub cut : m.atoms.cut ≡ n.atoms.cut

alike_is : (m n : State) → Alike m n → renumbered m n.atoms.number ≡ n
unfolding renumbered
alike_is m n A = λ i. record { width = A.width i; plan = A.plan i; rule = A.rule i; atoms = record { count = A.count i; cut = A.cut i; number = n.atoms.number } }

pub alike_numbers : (m : State) (numbers : List ℕ) → Alike m (renumbered m numbers)
unfolding renumbered
alike_numbers m numbers = record { width = refl; plan = refl; rule = refl; count = refl; cut = refl }

-- ---- the changes

module _ (old new : State) (numbers numbers' : List ℕ) (v : ℕ) where
  abbrev old' : State
  old' = renumbered old numbers

  abbrev new' : State
  new' = renumbered new numbers'

  same_places : (k : ℕ) → changed_places old new v k ≡ changed_places old' new' v k
  unfolding changed_at winner eligible rule_at source_of renumbered
  same_places = places_same old new old' new' v (λ q. refl)

  same_entries : (ps : List ℕ) → SameEntries (entries_at old new v ps) (entries_at old' new' v ps)
  unfolding entries_at entry_at next_at link_for winner eligible rule_at source_of renumbered
  same_entries [] = empty
  same_entries (p ∷ ps) = entry _ _ _ _ _ _ (same_entries ps)

-- ---- one record

module _ (m : State) (numbers : List ℕ) where
  abbrev n : State
  n = renumbered m numbers

  same_rules : SameRules m n
  unfolding renumbered
  same_rules = record { width = refl; rule = refl; link = refl }

  same_refusal : (r : Sort) → refusal m r ≡ refusal n r
  unfolding refusal renumbered
  same_refusal (set_up u) = refl
  same_refusal (update u) = go u
    where
      go : (u : Update) → update_refusal m u ≡ update_refusal n u
      go (insert r l p k t) = unfold update_refusal clashes added rule_at source_of in refl
      go (remove r) = unfold update_refusal rule_at in refl
  same_refusal (question q) = refl

  -- the state left is the other's with other numbers
  same_updated : (u : Update) → renumbered (updated m u) (updated n u).atoms.number ≡ updated n u
  unfolding updated inserted with_rule with_cut renumbered
  same_updated (insert r l p k t) = refl
  same_updated (remove r) = refl

  same_leaves : (r : Sort) → renumbered (leaves m r) (leaves n r).atoms.number ≡ leaves n r
  unfolding leaves renumbered
  same_leaves (set_up u) = refl
  same_leaves (update u) = unfold renumbered in same_updated u
  same_leaves (question q) = refl

  -- the lists are over the same places
  same_changes : (u : Update) → changes m u ≡ changes n u
  unfolding listed
  same_changes u =
      rw (← same_updated u, ← node_same same_rules u)
      (same_places m (updated m u) numbers (updated n u).atoms.number (node_of m u) (updated m u).atoms.count ∙ (unfold renumbered in refl))

  same_answers : (r : Sort) → answers (by_address m) m r ≡ answers (by_address n) n r
  unfolding answers
  same_answers (set_up u) = refl
  same_answers (update u) = ap (λ (ps : List ℕ). Changed (length ps)) (same_changes u)
  same_answers (question q) = answers_same m n same_rules (unfold renumbered in refl) q

  same_writes : (r : Sort) → SameEntries (writes m r) (writes n r)
  unfolding writes
  same_writes (set_up u) = empty
  same_writes (update u) =
      rw (← same_changes u, ← node_same same_rules u, ← same_updated u) (same_entries m (updated m u) numbers (updated n u).atoms.number (node_of m u) (changes m u))
  same_writes (question q) = empty

-- two steps alike, which leave states alike
pub record Both (d e : Done) : Type 0 where
  pub step : SameStep d e
  pub left : Alike d.left e.left

module _ (m : State) (numbers : List ℕ) (room : ℕ) (s : List ℕ) where
  abbrev other : State
  other = renumbered m numbers

  same_turned : (r : Sort) → turned_by m r ≡ turned_by other r
  same_turned r = rw (same_refusal m numbers r) (unfold renumbered in refl)

  same_accepted : (k : ℕ) (r : Sort) → Both (accepted (by_address m) m k r) (accepted (by_address other) other k r)
  unfolding accepted
  same_accepted k r = record {
    step = record {
      answer = same_answers m numbers r;
      passed = refl;
      list = same_writes m numbers r;
    };
    left = rw (← same_leaves m numbers r) (alike_numbers (leaves m r) (leaves other r).atoms.number);
  }

  same_only : (k : ℕ) (a : Answer) → Unmoved a → Both (only m k a) (only other k a)
  unfolding only
  same_only k a u = record { step = record { answer = refl; passed = refl; list = empty }; left = alike_numbers m numbers }

  step_renumbered : Both (step_of m room s) (step_of other room s)
  step_renumbered = both_step Both m other room s same_only (same_turned (sorted s)) (λ k q. same_accepted k (sorted s))

-- THE LAW: states that differ in their numbers only take every step alike
pub alike_step : (m n : State) → Alike m n → (room : ℕ) (s : List ℕ) → Both (step_of m room s) (step_of n room s)
alike_step m n A room s = rw (← alike_is m n A) (step_renumbered m n.atoms.number room s)

-- and stay so over any later steps
pub alike_since : (calls : List Call) (m n : State) → Alike m n → Alike (since m calls) (since n calls)
unfolding since
alike_since [] m n A = A
alike_since (c ∷ cs) m n A = alike_since cs _ _ (alike_step m n A c.room c.bytes).left

pub alike_later : (m n : State) → Alike m n → (calls : List Call) (room : ℕ) (s : List ℕ) → SameStep (step_of (since m calls) room s) (step_of (since n calls) room s)
alike_later m n A calls room s = (alike_step _ _ (alike_since calls m n A) room s).step
