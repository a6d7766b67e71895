-- The fate of a packet after any records: out, lost or round, exactly one of the three; round exactly when the walk never ends; hops below the number of nodes.
-- Assumes nothing.
use mathlib.Core.Path.{◌≡◌}
use mathlib.Core.Logic.{◌↔◌}
use Prim.Native.Nat.{ℕ, ◌-◌, ◌≤◌, ◌<◌}
use native.Mathlib.Omega.{arith}
use Rattle.meaning.specs.declared.Fate.{Fate}
use Rattle.meaning.specs.declared.Fate.TheVariants.{Out, Lost, Round}
use Rattle.meaning.specs.Hall.{State, end_of}
use Rattle.meaning.specs.Winner.{next_at}
use Rattle.meaning.specs.Walk.{at, after}
use Rattle.meaning.specs.Questions.{fate_of}
use Rattle.meaning.specs.Tables.{Sound}
use Rattle.meaning.proofs.walk.Walks.{IsFate, round, one_fate, few_out, few_lost}
use Rattle.meaning.proofs.sound.Ways.{closed_in, fate_of_lem}

module _ (m : State) (S : Sound m) (v a : ℕ) (h : v < m.plan.nodes) where
  -- THE LAW: the fate of a packet to address a at node v is f exactly when f is what becomes of it:
  -- `Out l k` when after k moves it leaves by link l, `Lost w k` when after k moves it is lost at node w, `Round` when the walk never ends
  pub fate_exact : (f : Fate) → (fate_of m v a ≡ f) ↔ IsFate (next_at m a) (end_of m) v f
  fate_exact f = let g = fate_of_lem m S a v h in (λ e. rw e at g, λ i. one_fate (next_at m a) (end_of m) v (fate_of m v a) f g i)

  -- round is exactly "the walk never ends": after any number of moves the packet stands at a node
  pub round_exact : (fate_of m v a ≡ Round) ↔ ((k : ℕ) → (w : ℕ) × (after (next_at m a) (end_of m) k (at v) ≡ at w))
  unfolding IsFate
  round_exact = fate_exact Round

  -- and this is so exactly when as many node-to-node moves as there are nodes have been made
  pub round_moves : (fate_of m v a ≡ Round) ↔ ((w : ℕ) × (after (next_at m a) (end_of m) m.plan.nodes (at v) ≡ at w))
  round_moves =
      let r = round (next_at m a) (end_of m) m.plan.nodes (closed_in m S a) v h in
      (λ e. r.1 (round_exact.0 e), λ g. round_exact.1 (r.0 g))

  -- the hops are at most the number of nodes less one
  pub hops_out : (l k : ℕ) → fate_of m v a ≡ Out l k → k ≤ m.plan.nodes - 1
  hops_out l k e = omega (arith, few_out (next_at m a) (end_of m) m.plan.nodes (closed_in m S a) v h l k ((fate_exact (Out l k)).0 e))

  pub hops_lost : (w k : ℕ) → fate_of m v a ≡ Lost w k → k ≤ m.plan.nodes - 1
  hops_lost w k e = omega (arith, few_lost (next_at m a) (end_of m) m.plan.nodes (closed_in m S a) v h w k ((fate_exact (Lost w k)).0 e))
