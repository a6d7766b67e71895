-- The winner is the one live rule at the node that covers the address and outranks every other; and what an insert and a remove do to the rules.
-- Assumes nothing.
use mathlib.Core.Path.{◌≡◌, refl, sym, ap, ◌∙◌}
use mathlib.Core.Logic.{◌↔◌, inl, inr}
use mathlib.Core.Bool.{true, false}
use mathlib.Core.Option.{none}
use Prim.Native.Nat.{ℕ, ◌+◌, ◌≤◌, ◌<◌}
use native.Mathlib.Omega.{arith}
use lib.ListN.{length}
use borrow.Author.Tests.{eq-eqb}
use Rattle.meaning.specs.Hall.{State}
use Rattle.meaning.specs.Rule.{span, rule_word, live, link_of, length_of, rank, lower, upper}
use Rattle.meaning.specs.Winner.{rule_at, node_for, eligible, winner}
use Rattle.meaning.specs.Atoms.{with_cut}
use Rattle.meaning.specs.Step.{update_refusal, with_rule, inserted, updated}
use Rattle.meaning.proofs.rules.Words.{RuleFits, link_of_lem, rank_of, lower_of, upper_of, length_of_lem, live_of}
use Rattle.meaning.proofs.records.Fields.{Sized}
use Rattle.meaning.proofs.rules.Ranks.{Wins}
use Rattle.meaning.proofs.records.Checks.{Clear, clear, clear_remove}
use Rattle.meaning.proofs.sound.Kept.{rule_fits, rule_new, rule_old}
use Rattle.meaning.proofs.rules.Covers.{both_cover, covers_is}
use Rattle.meaning.proofs.sound.Winner.{Winner, fit, wins, winner_only}
use Rattle.meaning.specs.Records.{insert, remove}
use Rattle.meaning.specs.Tables.{Sound}

-- ---- the winner

-- rule i is live, stands at node v, and covers address a
pub record Serves (m : State) (v a i : ℕ) : Type 0 where
  pub number : i < 256
  pub alive : live (rule_at m i) ≡ true
  pub here : node_for m (rule_at m i) ≡ v
  pub from : lower m.width (rule_at m i) ≤ a
  pub below : a < upper m.width (rule_at m i)

-- rule w outranks every other rule that serves address a at node v
pub record Outranks (m : State) (v a w : ℕ) : Type 0 where
  pub serves : Serves m v a w
  pub highest : (i : ℕ) → Serves m v a i → (i ≡ w → ⊥) → rank m.width (rule_at m i) < rank m.width (rule_at m w)

module _ (m : State) (v a : ℕ) (S : Sound m) where
  serves : (i : ℕ) → i < 256 → eligible m v a i ≡ true → Serves m v a i
  serves i h e =
      let f = fit m S v a i e in
      let d = (covers_is m.width (rule_at m i) a).0 f.over in
      record { number = h; alive = f.alive; here = f.here; from = d.0; below = d.1 }

  eligible_is : (i : ℕ) → Serves m v a i → eligible m v a i ≡ true
  unfolding eligible
  eligible_is i s = rw (s.alive, eq-eqb _ _ s.here, (covers_is m.width (rule_at m i) a).1 (s.from, s.below))

  -- THE LAW: rule w is the winner exactly when it serves the address at the node and outranks every other that does
  pub winner_is : (w : ℕ) → w < 256 → (winner m v a ≡ w) ↔ Outranks m v a w
  winner_is w h = (λ e. there (rw e at (wins m S v a)), λ o. winner_only m S v a w (inr (back o)))
    where
      there : Winner m v a w → Outranks m v a w
      there (inl x) = absurd (omega (arith, x.0))
      there (inr x) = record { serves = serves w x.within x.fits; highest = λ i s n. x.highest i s.number (eligible_is i s) n }

      back : Outranks m v a w → Wins (eligible m v a) (λ i. rank m.width (rule_at m i)) 256 w
      back o = record { within = h; fits = eligible_is w o.serves; highest = λ i l e n. o.highest i (serves i l e) n }

  -- there is no winner exactly when no rule serves the address at the node
  pub no_winner : (winner m v a ≡ 256) ↔ ((i : ℕ) → Serves m v a i → ⊥)
  no_winner = (λ e. there (rw e at (wins m S v a)), λ f. winner_only m S v a 256 (inl (refl, λ i h e. f i (serves i h e))))
    where
      there : Winner m v a 256 → (i : ℕ) → Serves m v a i → ⊥
      there (inl x) i s = x.1 i s.number (eligible_is i s)
      there (inr x) i s = omega (arith, x.within)

  -- no ties: of two rules that serve one address at one node, one outranks the other
  pub no_tie : (i j : ℕ) → Serves m v a i → Serves m v a j → rank m.width (rule_at m i) ≡ rank m.width (rule_at m j) → i ≡ j
  no_tie i j s t e =
      S.distinct i j s.number t.number s.alive t.alive (s.here ∙ sym t.here) e
      (both_cover _ _ _ a ((covers_is _ _ a).1 (s.from, s.below)) ((covers_is _ _ a).1 (t.from, t.below)))

-- ---- the rules

-- rule i is live and has these parts: it covers the addresses from p up to, and not with, the prefix's span above p
pub record Stored (m : State) (i l p n t : ℕ) : Type 0 where
  pub alive : live (rule_at m i) ≡ true
  pub link : link_of m.width (rule_at m i) ≡ l
  pub from : lower m.width (rule_at m i) ≡ p
  pub below : upper m.width (rule_at m i) ≡ p + span m.width n
  pub long : length_of m.width (rule_at m i) ≡ n
  pub priority : rank m.width (rule_at m i) ≡ t

-- an accepted insert stores its rule, and every other rule stays
module _ (m : State) (S : Sound m) (r l p n t : ℕ) (F : Sized m.width l p t) (ok : update_refusal m (insert r l p n t) ≡ none) where
  C : Clear m r l p n t
  C = clear m r l p n t ok

  R : RuleFits m.width l p n t
  R = rule_fits S F C

  parted : State
  parted = with_cut (with_cut m (lower m.width (rule_word m.width l p n t))) (upper m.width (rule_word m.width l p n t))

  rules_long : length parted.rule ≡ 256
  unfolding parted with_cut
  rules_long = S.rules

  stored_word : rule_at (updated m (insert r l p n t)) r ≡ rule_word m.width l p n t
  unfolding updated inserted parted
  stored_word = rule_new parted r (rule_word m.width l p n t) rules_long C.number

  pub insert_stores : Stored (updated m (insert r l p n t)) r l p n t
  unfolding updated inserted with_rule with_cut
  insert_stores = record {
    alive = ap live stored_word ∙ live_of R;
    link = ap (link_of m.width) stored_word ∙ link_of_lem R;
    from = ap (lower m.width) stored_word ∙ lower_of R;
    below = ap (upper m.width) stored_word ∙ upper_of R;
    long = ap (length_of m.width) stored_word ∙ length_of_lem R;
    priority = ap (rank m.width) stored_word ∙ rank_of R;
  }

  pub insert_others : (i : ℕ) → (i ≡ r → ⊥) → rule_at (updated m (insert r l p n t)) i ≡ rule_at m i
  unfolding updated inserted parted
  insert_others i h = rule_old parted r (rule_word m.width l p n t) rules_long C.number i h ∙ (unfold rule_at with_cut in refl)

-- an accepted remove takes its rule out, and every other rule stays
module _ (m : State) (S : Sound m) (r : ℕ) (ok : update_refusal m (remove r) ≡ none) where
  small : r < 256
  small = (clear_remove m r ok).number

  pub remove_frees : live (rule_at (updated m (remove r)) r) ≡ false
  unfolding updated live
  remove_frees = ap live (rule_new m r 0 S.rules small)

  pub remove_others : (i : ℕ) → (i ≡ r → ⊥) → rule_at (updated m (remove r)) i ≡ rule_at m i
  unfolding updated
  remove_others i h = rule_old m r 0 S.rules small i h
