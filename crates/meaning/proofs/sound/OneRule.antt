-- What an update does to the winners. State n has the rules of m and one more, rule r with the word z: an insert goes from
-- m to n, a remove from n to m. With r, the winner is the better of the winner without it and r. Assumes nothing.
use mathlib.Core.Path.{◌≡◌, refl, sym, ap, ◌∙◌, subst⁻¹}
use mathlib.Core.Logic.{inl, inr, ⊎_elim}
use mathlib.Core.Bool.{Bool, true, false, true≢false}
use mathlib.Core.Option.{none}
use Prim.Native.Nat.{ℕ, ◌/◌, ◌≤◌, ◌<◌}
use native.Mathlib.Decide.{ℕ_discrete}
use native.Mathlib.Omega.{arith}
use lib.ListN.{get_or}
use Rattle.meaning.specs.declared.hall.Phase.TheVariants.{Closed}
use Rattle.meaning.specs.Hall.{State, source_of}
use Rattle.meaning.specs.Rule.{rule_word, live, rank, lower, upper, covers}
use Rattle.meaning.specs.Winner.{better, rule_at, eligible, winner, node_for}
use Rattle.meaning.specs.Working.{owner_word}
use Rattle.meaning.specs.Atoms.{with_cut}
use Rattle.meaning.specs.Records.{insert, remove}
use Rattle.meaning.specs.Step.{update_refusal, with_rule, inserted, updated, node_of}
use Rattle.meaning.specs.Tables.{Sound}
use Rattle.meaning.proofs.rules.Words.{link_of_lem, live_of}
use Rattle.meaning.proofs.records.Fields.{Sized, FitsUpdate}
use Rattle.meaning.proofs.rules.Ranks.{Wins, keep_out, take_first, take_higher, keep_lower}
use Rattle.meaning.proofs.sound.Winner.{Winner, fit, wins, winner_only}
use Rattle.meaning.proofs.records.Checks.{Clear, clear, ClearRemove, clear_remove}
use Rattle.meaning.proofs.sound.Kept.{rule_fits, rule_new, rule_old, keeps_update}

pub winner_le : (m : State) → Sound m → (v a : ℕ) → winner m v a ≤ 256
winner_le m S v a = ⊎_elim (λ x. omega (arith, x.0)) (λ x. omega (arith, x.within)) (wins m S v a)

-- n has the rules of m and rule r besides, which has the word z and stands at node v
pub record Joined (m n : State) (r z v : ℕ) : Type 0 where
  pub width : n.width ≡ m.width
  pub less : Sound m
  pub more : Sound n
  pub slot : r < 256
  pub links : n.plan.link ≡ m.plan.link
  pub free : live (rule_at m r) ≡ false
  pub word : rule_at n r ≡ z
  pub alive : live z ≡ true
  pub node : node_for n z ≡ v
  pub others : (i : ℕ) → (i ≡ r → ⊥) → rule_at n i ≡ rule_at m i

module _ (m n : State) (r z v : ℕ) (J : Joined m n r z v) (u a : ℕ) where
  -- the other rules are eligible as before
  other : (i : ℕ) → (i ≡ r → ⊥) → eligible n u a i ≡ eligible m u a i
  unfolding eligible source_of
  other i d = rw (J.others i d, J.links, J.width)

  -- r is not eligible without
  not_free : eligible m u a r ≡ true → ⊥
  not_free e = true≢false (sym (fit m J.less u a r e).alive ∙ J.free)

  apart : (i : ℕ) → eligible m u a i ≡ true → i ≡ r → ⊥
  apart i e q = not_free (sym (ap (eligible m u a) q) ∙ e)

  pub never : winner m u a ≡ r → ⊥
  never e = ⊎_elim (λ x. omega (arith, x.0, J.slot)) (λ x. apart (winner m u a) x.fits e) (wins m J.less u a)

  -- where r does not win, nothing changes
  pub stays : (winner n u a ≡ r → ⊥) → winner m u a ≡ winner n u a
  stays d = winner_only m J.less u a (winner n u a) (go (wins n J.more u a))
    where
      w : ℕ
      w = winner n u a

      still : (i : ℕ) → eligible m u a i ≡ true → eligible n u a i ≡ true
      still i e = other i (apart i e) ∙ e

      go : Winner n u a w → Winner m u a w
      go (inl x) = inl (x.0, λ i h e. x.1 i h (still i e))
      go (inr x) = inr (record {
        within = x.within;
        fits = sym (other w d) ∙ x.fits;
        highest = λ i h e q.
            rw (← J.others i (apart i e), ← J.others w d, ← J.width) (x.highest i h (still i e) q);
      })

  -- THE LAW: the winner with r is the better of the winner without it and r
  pub joined : winner n u a ≡ better (eligible n u a) (λ i. rank n.width (rule_at n i)) (winner m u a) r
  joined = go (wins n J.more u a) (ℕ_discrete (winner n u a) r)
    where
      E : ℕ → Bool
      E = eligible n u a

      R : ℕ → ℕ
      R i = rank n.width (rule_at n i)

      x : ℕ
      x = winner m u a

      takes : Wins E R 256 r → Winner m u a x → r ≡ better E R x r
      takes W (inl o) = take_first E R x r W.fits o.0
      takes W (inr o) =
          take_higher E R x r W.fits (λ e. omega (arith, o.within))
          (W.highest x o.within (other x never ∙ o.fits) never)

      keeps : Winner n u a x → (x ≡ r → ⊥) → (b : Bool) → E r ≡ b → x ≡ better E R x r
      keeps W d false e = keep_out E R x r e
      keeps (inl o) d true e = absurd (o.1 r J.slot e)
      keeps (inr o) d true e = keep_lower E R x r e (λ q. omega (arith, o.within)) (omega (arith, o.highest r J.slot e (λ q. d (sym q))))

      go : Winner n u a (winner n u a) → Dec (winner n u a ≡ r) → winner n u a ≡ better E R x r
      go (inl o) (yes e) = absurd (omega (arith, o.0, J.slot))
      go (inr o) (yes e) = e ∙ takes (rw e at o) (wins m J.less u a)
      go o (no d) = let s = stays d in sym s ∙ keeps (rw (sym s) at o) never (E r) refl

  -- r wins at its node and on its addresses only
  pub where_wins : winner n u a ≡ r → (u ≡ v) × (covers n.width z a ≡ true)
  where_wins e = go (wins n J.more u a)
    where
      go : Winner n u a (winner n u a) → (u ≡ v) × (covers n.width z a ≡ true)
      go (inl o) = absurd (omega (arith, o.0, J.slot))
      go (inr o) =
          let f = fit n J.more u a r (sym (ap (eligible n u a) e) ∙ o.fits) in (
            sym f.here ∙ ap (node_for n) J.word ∙ J.node,
            sym (ap (λ (x : ℕ). covers n.width x a) J.word) ∙ f.over,
          )

  -- the rule that wins in both is the same owner in both
  pub owner_alike : winner m u a ≡ winner n u a → owner_word m (winner m u a) ≡ owner_word n (winner n u a)
  unfolding owner_word
  owner_alike e = rw (← e, J.others (winner m u a) never, J.width)

module _ (m : State) (r : ℕ) (S : Sound m) (ph : m.plan.phase ≡ Closed) (ok : update_refusal m (remove r) ≡ none) where
  live_there : ClearRemove m r
  live_there = clear_remove m r ok

  pub goes : (v : ℕ) → v ≡ node_of m (remove r) → Joined (with_rule m r 0) m r (rule_at m r) v
  unfolding node_of
  goes v e = record {
    width = unfold with_rule in refl;
    less = unfold updated FitsUpdate in keeps_update m (remove r) S tt ph ok;
    more = S;
    slot = live_there.number;
    links = unfold with_rule in refl;
    free = ap live (rule_new m r 0 S.rules live_there.number) ∙ (unfold live in refl);
    word = refl;
    alive = live_there.alive;
    node = sym e;
    others = λ i d. sym (rule_old m r 0 S.rules live_there.number i d);
  }

-- an insert goes by way of the state whose boundaries are made
module _ (m : State) (r l p n t : ℕ) (S : Sound m) (F : Sized m.width l p t) (ph : m.plan.phase ≡ Closed) (ok : update_refusal m (insert r l p n t) ≡ none) where
  abbrev z : ℕ
  z = rule_word m.width l p n t

  C : Clear m r l p n t
  C = clear m r l p n t ok

  pub comes : (o : State) → o ≡ with_cut (with_cut m (lower m.width z)) (upper m.width z) → Sound o → (v : ℕ) → v ≡ node_of m (insert r l p n t) → Joined o (with_rule o r z) r z v
  unfolding node_of source_of with_rule
  comes o is O v e = record {
    width = refl;
    less = O;
    more = subst⁻¹ (λ (s : State). Sound (with_rule s r z)) is (unfold updated inserted FitsUpdate in keeps_update m (insert r l p n t) S F ph ok);
    slot = C.number;
    links = refl;
    free = ap (λ (s : State). live (rule_at s r)) is ∙ (unfold with_cut rule_at in C.free);
    word = rule_new o r z O.rules C.number;
    alive = live_of (rule_fits S F C);
    node = rw is (unfold with_cut in ap (λ (x : ℕ). get_or m.plan.link x 0 / 1024) (link_of_lem (rule_fits S F C)) ∙ sym e);
    others = rule_old o r z O.rules C.number;
  }
