-- The winner, of a sound state: the one eligible rule of the highest rank, or none. Assumes nothing.
use mathlib.Core.Path.{◌≡◌, refl, sym, ◌∙◌}
use mathlib.Core.Logic.{◌⊎◌, inl, inr}
use mathlib.Core.Bool.{Bool, true, false}
use mathlib.Core.Option.{none, some}
use Prim.Native.Nat.{ℕ, ◌<◌}
use native.Mathlib.Omega.{arith}
use lib.Dec.{ltb}
use borrow.Author.Tests.{ltb-true, eqb-true}
use Rattle.meaning.specs.Search.{pick}
use Rattle.meaning.specs.Hall.{State}
use Rattle.meaning.specs.Rule.{live, link_of, rank, covers}
use Rattle.meaning.specs.Winner.{rule_at, node_for, eligible, winner, link_for, next_at}
use Rattle.meaning.specs.Tables.{Sound}
use Rattle.meaning.proofs.rules.Ranks.{Wins, Distinct, wins_once, winner_law}
use Rattle.meaning.proofs.base.Search.{and_both}
use Rattle.meaning.proofs.rules.Covers.{both_cover}
use Rattle.meaning.proofs.base.Order.{clash}

-- w is the one eligible rule of the highest rank, or 256 where no rule is eligible
abbrev pub Winner : State → ℕ → ℕ → ℕ → Type 0
Winner m v a w = ((w ≡ 256) × ((i : ℕ) → i < 256 → eligible m v a i ≡ true → ⊥)) ⊎ Wins (eligible m v a) (λ i. rank m.width (rule_at m i)) 256 w

module _ (m : State) (S : Sound m) (v a : ℕ) where
  pub record Fit (i : ℕ) : Type 0 where
    pub alive : live (rule_at m i) ≡ true
    pub here : node_for m (rule_at m i) ≡ v
    pub over : covers m.width (rule_at m i) a ≡ true

  pub fit : (i : ℕ) → eligible m v a i ≡ true → Fit i
  unfolding eligible
  fit i e = let b = and_both _ _ e in let c = and_both _ _ b.1 in record { alive = b.0; here = eqb-true _ _ c.0; over = c.1 }

  ranks : Distinct (eligible m v a) (λ i. rank m.width (rule_at m i)) 256
  ranks i j hi hj p q e =
      let x = fit i p in
      let y = fit j q in
      S.distinct i j hi hj x.alive y.alive (x.here ∙ sym y.here) e (both_cover _ _ _ a x.over y.over)

  -- THE LAW: the winner is such a number
  pub wins : Winner m v a (winner m v a)
  unfolding winner
  wins = winner_law (eligible m v a) (λ i. rank m.width (rule_at m i)) 256 (omega arith) ranks

  -- and no other number is
  pub winner_only : (w : ℕ) → Winner m v a w → winner m v a ≡ w
  winner_only w = go wins
    where
      go : Winner m v a (winner m v a) → Winner m v a w → winner m v a ≡ w
      go (inl x) (inl y) = x.0 ∙ sym y.0
      go (inl x) (inr y) = absurd (x.1 w y.within y.fits)
      go (inr x) (inl y) = absurd (y.1 (winner m v a) x.within x.fits)
      go (inr x) (inr y) = wins_once _ _ 256 (winner m v a) w x y

  -- a link that a packet takes is declared
  pub taken_link : (l : ℕ) → next_at m a v ≡ some l → l < m.plan.links
  unfolding next_at link_for
  taken_link l e = go wins (ltb (winner m v a) 256) refl e
    where
      go : Winner m v a (winner m v a) → (t : Bool) → ltb (winner m v a) 256 ≡ t → pick t (some (link_of m.width (rule_at m (winner m v a)))) none ≡ some l → l < m.plan.links
      go x false p f = clash cc
      go (inl x) true p f = absurd (omega (arith, x.0, ltb-true (winner m v a) 256 p))
      go (inr x) true p f =
          let q : link_of m.width (rule_at m (winner m v a)) ≡ l = cc in
          omega (arith, S.named (winner m v a) x.within (fit (winner m v a) x.fits).alive)
