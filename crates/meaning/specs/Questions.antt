-- The questions, over addresses: fate, loop, reach and tally. Assumes nothing: these are definitions.
use Rattle.std.specs.Prelude.{Bool, true, false, ℕ}
use Rattle.std.proofs.Math.Option.{Option, none, some}
use Rattle.meaning.specs.declared.Answer.{Answer}
use Rattle.meaning.specs.declared.Answer.TheVariants.{Loop, NoLoop, Went, Yes, No, Tally}
use Rattle.meaning.specs.declared.Fate.{Fate}
use Rattle.meaning.specs.declared.Fate.TheVariants.{Out, Lost, Round}
use Rattle.meaning.specs.Search.{any_below, lowest_below, count_below}
use Rattle.meaning.specs.Hall.{top, State, end_of}
use Rattle.meaning.specs.Winner.{next_at}
use Rattle.meaning.specs.Records.{Question, loop, fate, reach, tally}
use Rattle.meaning.specs.Walk.{goes_round, on_circle, comes_to, fate_in}

-- what becomes of a packet to address a at node v
unfoldable pub fate_of : State → ℕ → ℕ → Fate
fate_of m v a = fate_in (next_at m a) (end_of m) m.plan.nodes 0 v

-- some node's walk goes round at address a
unfoldable pub loops_at : State → ℕ → Bool
loops_at m a = any_below m.plan.nodes (goes_round (next_at m a) (end_of m) m.plan.nodes)

-- the lowest node on a circle at address a
unfoldable pub circle_at : State → ℕ → Option ℕ
circle_at m a = lowest_below m.plan.nodes (on_circle (next_at m a) (end_of m) m.plan.nodes)

unfoldable pub some_node : ℕ → Option ℕ → Answer
some_node a (some v) = Loop a v
some_node a none = NoLoop

unfoldable pub loop_from : State → Option ℕ → Answer
loop_from m (some a) = some_node a (circle_at m a)
loop_from m none = NoLoop

-- from node v a packet to address a comes to node w
unfoldable pub reaches_at : State → ℕ → ℕ → ℕ → Bool
reaches_at m v w a = comes_to (next_at m a) (end_of m) m.plan.nodes v w

unfoldable pub reach_from : Option ℕ → Answer
reach_from (some a) = Yes a
reach_from none = No

-- the three fates, each by its own case
unfoldable pub is_out : Fate → Bool
is_out (Out l h) = true
is_out (Lost w h) = false
is_out Round = false

unfoldable pub is_lost : Fate → Bool
is_lost (Out l h) = false
is_lost (Lost w h) = true
is_lost Round = false

unfoldable pub is_round : Fate → Bool
is_round (Out l h) = false
is_round (Lost w h) = false
is_round Round = true

-- the answers, by any way to find the lowest address with P and to count the addresses with P
module _ (least : (ℕ → Bool) → Option ℕ) (count : (ℕ → Bool) → ℕ) (m : State) where
  unfoldable pub asked : Question → Answer
  asked loop = loop_from m (least (loops_at m))
  asked (fate v a) = Went (fate_of m v a)
  asked (reach v w) = reach_from (least (reaches_at m v w))
  asked (tally v) = Tally (count (λ a. is_out (fate_of m v a))) (count (λ a. is_lost (fate_of m v a))) (count (λ a. is_round (fate_of m v a)))

-- THE MEANING: over all addresses
unfoldable pub by_address : State → Question → Answer
by_address m = asked (lowest_below (top m)) (count_below (top m)) m
