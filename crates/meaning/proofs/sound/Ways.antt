-- The walks of a sound state stay among its nodes; where one goes round, a node lies on a circle; the fate is the walk's end. Assumes nothing.
use mathlib.Core.Path.{◌≡◌}
use mathlib.Core.Bool.{true}
use mathlib.Core.Option.{none}
use Prim.Native.Nat.{ℕ, ◌<◌}
use native.Mathlib.Omega.{arith}
use Rattle.meaning.specs.Hall.{State, end_of}
use Rattle.meaning.specs.Winner.{next_at}
use Rattle.meaning.specs.Walk.{goes_round, on_circle}
use Rattle.meaning.specs.Questions.{fate_of, loops_at, circle_at}
use Rattle.meaning.specs.Tables.{Sound}
use Rattle.meaning.proofs.base.Search.{any_some, lowest_none}
use Rattle.meaning.proofs.walk.Moves.{goes_to}
use Rattle.meaning.proofs.walk.Walks.{Closed, IsFate, fate_is}
use Rattle.meaning.proofs.walk.Circles.{never_circle}
use Rattle.meaning.proofs.sound.Winner.{taken_link}
use Rattle.meaning.proofs.walk.Tests.{round_is, circle_is}

-- ---- the walk stays among the nodes

module _ (m : State) (S : Sound m) (a : ℕ) where
  pub closed_in : Closed (next_at m a) (end_of m) m.plan.nodes
  unfolding end_of
  closed_in v w h e =
      let g = (goes_to (next_at m a) (end_of m) v w).0 e in
      omega (arith, g.2, S.laid.ends g.0 (taken_link m S v a g.0 g.1) (omega (arith, g.2, g.3)))

-- ---- a place's tests

module _ (m : State) (S : Sound m) (a : ℕ) where
  -- where some node's walk goes round, a node lies on a circle: the answer to a found loop always names a node
  pub loop_circle : loops_at m a ≡ true → circle_at m a ≡ none → ⊥
  unfolding loops_at circle_at
  loop_circle e f =
      let r = any_some (goes_round (next_at m a) (end_of m) m.plan.nodes) m.plan.nodes e in
      let c = closed_in m S a in
      let g = (round_is (next_at m a) (end_of m) m.plan.nodes c r.0 r.1).0 r.2 in
      let q = never_circle (next_at m a) (end_of m) m.plan.nodes c r.0 r.1 g in
      (lowest_none (on_circle (next_at m a) (end_of m) m.plan.nodes) m.plan.nodes).0 f q.0 q.1
      ((circle_is (next_at m a) (end_of m) m.plan.nodes c q.0 q.1).1 q.3)

  -- the fate is the fate
  pub fate_of_lem : (v : ℕ) → v < m.plan.nodes → IsFate (next_at m a) (end_of m) v (fate_of m v a)
  unfolding fate_of
  fate_of_lem v h = fate_is (next_at m a) (end_of m) m.plan.nodes (closed_in m S a) v h
