-- The live rules after any records are those that an accepted insert brought in and that no accepted update of their number has touched since.
-- Assumes nothing.
use mathlib.Core.Path.{◌≡◌, subst, refl, sym, ap, ◌∙◌}
use mathlib.Core.Logic.{◌↔◌, ◌⊎◌, inl, inr, ⊎_elim}
use mathlib.Core.Bool.{true≢false}
use mathlib.Core.Option.{none}
use mathlib.Core.List.{List}
use Prim.Native.Nat.{ℕ}
use native.Mathlib.Decide.{ℕ_discrete}
use native.Mathlib.Omega.{arith}
use lib.Seq.{get_or-set_other}
use Rattle.meaning.specs.declared.Answer.{Answer}
use Rattle.meaning.specs.declared.Answer.TheVariants.{Changed}
use Rattle.meaning.specs.Hall.{State, empty, fresh}
use Rattle.meaning.specs.Winner.{rule_at}
use Rattle.meaning.specs.Atoms.{with_cut}
use Rattle.meaning.specs.Questions.{by_address}
use Rattle.meaning.specs.Records.{record_of, Update, insert, remove, Sort, set_up, update, question, sort_of}
use Rattle.meaning.specs.Step.{Done, update_refusal, with_rule, inserted, updated, leaves, only, answers, accepted, step_of}
use Rattle.meaning.specs.Run.{Came, start, more}
use Rattle.meaning.specs.Tables.{Sound}
use Rattle.meaning.specs.declared.Record.TheVariants.{Insert}
use Rattle.meaning.proofs.records.Fields.{FitsUpdate}
use Rattle.meaning.proofs.records.Sorts.{record_for, sorted_as}
use Rattle.meaning.proofs.sound.Sound.{width_is}
use Rattle.meaning.proofs.sound.Kept.{sound}
use Rattle.meaning.proofs.document.Winners.{Stored, insert_stores, remove_frees}
use Rattle.meaning.proofs.demands.Demands.{rule_of, then, Accepts, InForce}
use Rattle.meaning.proofs.demands.Accepted.{sorted, Unmoved, no_byte, refused, both_step, passes, fit, left_is}
use Rattle.meaning.proofs.base.Order.{clash}

-- ---- a step, seen from rule i

-- by the step d of the bytes s an update of rule i is accepted; or none is, and the rule is as it was
Fork : State → List ℕ → ℕ → Done → Type 0
Fork m s i d =
    ((u : Update) × (sorted s ≡ update u) × (rule_of u ≡ i) × ((k : ℕ) × (d.answer ≡ Changed k)))
    ⊎ (((u : Update) (k : ℕ) → sorted s ≡ update u → rule_of u ≡ i → d.answer ≡ Changed k → ⊥) × (rule_at d.left i ≡ rule_at m i))

module _ (m : State) (s : List ℕ) (i : ℕ) where
  fork_only : (k : ℕ) (a : Answer) → Unmoved a → Fork m s i (only m k a)
  unfolding Fork only
  fork_only k a no_byte = inr (λ u j q n e. clash cc, refl)
  fork_only k a (refused x) = inr (λ u j q n e. clash cc, refl)

  -- an update of another rule leaves the word of this one
  other_rule : (u : Update) → (i ≡ rule_of u → ⊥) → rule_at (updated m u) i ≡ rule_at m i
  unfolding rule_of updated inserted with_rule with_cut rule_at
  other_rule (insert r l p n t) h = get_or-set_other m.rule r i _ 0 h
  other_rule (remove r) h = get_or-set_other m.rule r i 0 0 h

  fork_taken : (n : ℕ) (r : Sort) → sorted s ≡ r → Fork m s i (accepted (by_address m) m n r)
  unfolding Fork accepted answers leaves
  fork_taken n (set_up u) q = inr (λ v k p x e. clash cc, unfold rule_at in refl)
  fork_taken n (update u) q = go (ℕ_discrete i (rule_of u))
    where
      go : Dec (i ≡ rule_of u) → Fork m s i (accepted (by_address m) m n (update u))
      go (yes e) = inl (u, q, sym e, (_, refl))
      go (no h) = inr (λ v k p x e. h (sym x ∙ ap rule_of (let z : v ≡ u = cc in z)), other_rule u h)
  fork_taken n (question x) q = inr (λ v k p x e. clash cc, refl)

fork : (m : State) (room : ℕ) (s : List ℕ) (i : ℕ) → Accepts m room s i ⊎ ((Accepts m room s i → ⊥) × (rule_at (then m room s) i ≡ rule_at m i))
unfolding Fork
fork m room s i = go (both_step (λ d e. Fork m s i d) m m room s (fork_only m s i) refl (λ k q. fork_taken m s i k (sorted s) refl))
  where
    go : Fork m s i (step_of m room s) → Accepts m room s i ⊎ ((Accepts m room s i → ⊥) × (rule_at (then m room s) i ≡ rule_at m i))
    go (inl (u, q, n, (k, e))) = inl (record { sent = u; record_is = q; names = n; count = k; ok = e })
    go (inr x) = inr (λ A. x.0 A.sent A.count A.record_is A.names A.ok, x.1)

-- ---- what is stored

stays_stored : (m n : State) (i l p o t : ℕ) → n.width ≡ m.width → rule_at n i ≡ rule_at m i → Stored m i l p o t → Stored n i l p o t
stays_stored m n i l p o t w e x = record {
  alive = rw e x.alive;
  link = rw (e, w) x.link;
  from = rw (e, w) x.from;
  below = rw (e, w) x.below;
  long = rw (e, w) x.long;
  priority = rw (e, w) x.priority;
}

-- what an accepted update of rule i stores, and what is stored then is what it says
module _ (m : State) (S : Sound m) (i : ℕ) where
  stores_it : (u : Update) → rule_of u ≡ i → FitsUpdate m.width u → update_refusal m u ≡ none → (l p n t : ℕ) → u ≡ insert i l p n t → Stored (updated m u) i l p n t
  unfolding FitsUpdate
  stores_it u q f ok l p n t e = rw e (insert_stores m S i l p n t (rw e at f) (rw e at ok))

  stored_is : (u : Update) → rule_of u ≡ i → FitsUpdate m.width u → update_refusal m u ≡ none → (l p n t : ℕ) → Stored (updated m u) i l p n t → u ≡ insert i l p n t
  unfolding rule_of FitsUpdate
  stored_is (insert r l p n t) q f ok l' p' n' t' y =
      let x = subst (λ (k : ℕ). Stored (updated m (insert r l p n t)) k l p n t) q (insert_stores m S r l p n t f ok) in
      let a : l ≡ l' = sym x.link ∙ y.link in
      let b : p ≡ p' = sym x.from ∙ y.from in
      let d : n ≡ n' = sym x.long ∙ y.long in
      let g : t ≡ t' = sym x.priority ∙ y.priority in
      rw (q, a, b, d, g)
  stored_is (remove r) q f ok l p n t y = absurd (true≢false (sym y.alive ∙ rw (← q) (remove_frees m S r ok)))

module _ (m : State) (c : Came m) (room : ℕ) (s : List ℕ) (i : ℕ) (A : Accepts m room s i) (l p n t : ℕ) where
  accepted_stores : record_of s ≡ Insert i l p n t → Stored (then m room s) i l p n t
  unfolding sort_of
  accepted_stores e =
      let u : A.sent ≡ insert i l p n t = (let z : update A.sent ≡ update (insert i l p n t) = sym A.record_is ∙ ap sort_of e in cc) in
      rw (left_is m room s i A) (stores_it m (sound m c) i A.sent A.names (fit m room s i A c) (passes m room s i A) l p n t u)

  stored_accepts : Stored (then m room s) i l p n t → record_of s ≡ Insert i l p n t
  unfolding record_for
  stored_accepts y =
      let u = stored_is m (sound m c) i A.sent A.names (fit m room s i A c) (passes m room s i A) l p n t (rw (left_is m room s i A) at y) in
      sorted_as (A.record_is ∙ ap update u)

-- THE LAW: what is live is what is in force, with its parts
pub in_force : (m : State) (c : Came m) (i l p n t : ℕ) → InForce c i l p n t ↔ Stored m i l p n t
unfolding InForce
in_force m start i l p n t = (λ h. absurd h, λ x. absurd (true≢false (sym x.alive ∙ (sound fresh start).idle (unfold empty in omega arith) i)))
in_force m (more {m = o} room s c) i l p n t = let was = in_force o c i l p n t in (there was.0, back was.1 (fork o room s i))
  where
    same : (then o room s).width ≡ o.width
    same = width_is (more room s c) ∙ sym (width_is c)

    there : (InForce c i l p n t → Stored o i l p n t) → (Accepts o room s i × (record_of s ≡ Insert i l p n t)) ⊎ (InForce c i l p n t × (Accepts o room s i → ⊥))
        → Stored (then o room s) i l p n t
    there was (inl x) = accepted_stores o c room s i x.0 l p n t x.1
    there was (inr x) = ⊎_elim (λ A. absurd (x.1 A)) (λ y. stays_stored o (then o room s) i l p n t same y.1 (was x.0)) (fork o room s i)

    back : (Stored o i l p n t → InForce c i l p n t) → Accepts o room s i ⊎ ((Accepts o room s i → ⊥) × (rule_at (then o room s) i ≡ rule_at o i))
        → Stored (then o room s) i l p n t → (Accepts o room s i × (record_of s ≡ Insert i l p n t)) ⊎ (InForce c i l p n t × (Accepts o room s i → ⊥))
    back was (inl A) x = inl (A, stored_accepts o c room s i A l p n t x)
    back was (inr y) x = inr (was (stays_stored (then o room s) o i l p n t (sym same) (sym y.1) x), y.0)
