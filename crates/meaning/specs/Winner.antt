-- The winner for address a at node v: the live rule there that covers a with the highest rank, by its number; 256 where there is none.
-- Assumes nothing: these are definitions.
use Rattle.std.specs.Prelude.{Bool, ◌&&◌, ◌||◌, ℕ, zero, suc, ltb, eqb, get_or}
use Rattle.std.proofs.Math.Option.{Option, none, some}
use Rattle.meaning.specs.Search.{pick}
use Rattle.meaning.specs.Hall.{State, source_of}
use Rattle.meaning.specs.Rule.{live, link_of, rank, covers}

-- of the best so far, w, and i: i where it is eligible and there is none yet, or one of lower rank
unfoldable pub better : (ℕ → Bool) → (ℕ → ℕ) → ℕ → ℕ → ℕ
better E r w i = pick (E i && (eqb w 256 || ltb (r w) (r i))) i w

-- the eligible one of the highest rank among those below k
unfoldable pub best : (ℕ → Bool) → (ℕ → ℕ) → ℕ → ℕ
best E r zero = 256
best E r (suc k) = better E r (best E r k) k

-- the word of rule i
unfoldable pub rule_at : State → ℕ → ℕ
rule_at m i = get_or m.rule i 0

-- the node of the rule with the word w: its link's source
abbrev pub node_for : State → ℕ → ℕ
node_for m w = source_of m (link_of m.width w)

-- rule i is live, stands at node v, and covers address a
unfoldable pub eligible : State → ℕ → ℕ → ℕ → Bool
eligible m v a i = live (rule_at m i) && (eqb (node_for m (rule_at m i)) v && covers m.width (rule_at m i) a)

unfoldable pub winner : State → ℕ → ℕ → ℕ
winner m v a = best (eligible m v a) (λ i. rank m.width (rule_at m i)) 256

-- the link that rule w names, or none for 256
unfoldable pub link_for : State → ℕ → Option ℕ
link_for m w = pick (ltb w 256) (some (link_of m.width (rule_at m w))) none

-- the link that a packet to address a takes at node v
unfoldable pub next_at : State → ℕ → ℕ → Option ℕ
next_at m a v = link_for m (winner m v a)
