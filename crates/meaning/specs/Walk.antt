-- The walk of one packet, over any rule for the next link and any ends of links: moves, hops, the three fates, circles.
-- Assumes nothing: these are definitions.
use Rattle.std.specs.Prelude.{Bool, true, false, ℕ, zero, suc, ltb, eqb}
use Rattle.std.proofs.Math.Option.{Option, none, some}
use Rattle.meaning.specs.declared.Fate.{Fate}
use Rattle.meaning.specs.declared.Fate.TheVariants.{Out, Lost, Round}
use Rattle.meaning.specs.Search.{pick, any_below}

-- where a packet is: at a node, out of the hall by a link, or lost, having last stood at a node
pub data Position : Type 0 where
  at : ℕ → Position
  out : ℕ → Position
  lost : ℕ → Position

-- the packet came from node v by link l to the end e: a node below 256, a port below 512, or the drop
unfoldable pub arrive : ℕ → ℕ → ℕ → Position
arrive v l e = pick (ltb e 256) (at e) (pick (ltb e 512) (out l) (lost v))

-- the packet stands at node v, whose next link is l, or none
unfoldable pub leave : (ℕ → ℕ) → ℕ → Option ℕ → Position
leave end v none = lost v
leave end v (some l) = arrive v l (end l)

module _ (next : ℕ → Option ℕ) (end : ℕ → ℕ) where
  -- one move: at a node the packet takes the next link to its end. What has ended stays where it is
  unfoldable pub move : Position → Position
  move (at v) = leave end v (next v)
  move (out l) = out l
  move (lost v) = lost v

  -- where the packet is after k moves
  unfoldable pub after : ℕ → Position → Position
  after zero p = p
  after (suc k) p = after k (move p)

-- the packet stands at a node
unfoldable pub stands : Position → Bool
stands (at v) = true
stands (out l) = false
stands (lost v) = false

-- the packet stands at node v
unfoldable pub stands_at : ℕ → Position → Bool
stands_at v (at w) = eqb w v
stands_at v (out l) = false
stands_at v (lost w) = false

module _ (next : ℕ → Option ℕ) (end : ℕ → ℕ) (n : ℕ) where
  -- the walk from v goes round: n moves among n nodes have been made
  unfoldable pub goes_round : ℕ → Bool
  goes_round v = stands (after next end n (at v))

  -- v lies on a circle: some moves, one at least and n at most, lead back to it
  unfoldable pub on_circle : ℕ → Bool
  on_circle v = any_below n (λ k. stands_at v (after next end (suc k) (at v)))

  -- the walk from v stands at w at some time, the start counted
  unfoldable pub comes_to : ℕ → ℕ → Bool
  comes_to v w = any_below n (λ k. stands_at w (after next end k (at v)))

-- the fate after h hops, by where the last move led: f says it of a node
unfoldable pub told : (ℕ → Fate) → ℕ → Position → Fate
told f h (at w) = f w
told f h (out l) = Out l h
told f h (lost v) = Lost v h

-- the fate of a packet that stands at v after h hops, where k moves more are round
unfoldable pub fate_in : (ℕ → Option ℕ) → (ℕ → ℕ) → ℕ → ℕ → ℕ → Fate
fate_in next end zero h v = Round
fate_in next end (suc k) h v = told (fate_in next end k (suc h)) h (move next end (at v))
