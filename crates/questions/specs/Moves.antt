-- Where a packet stands, and what code's answers about one move and about one node mean. Assumes nothing: these are definitions.
use Rattle.std.specs.Prelude.{◌≡◌, true, false, ℕ, ◌/◌, ◌%◌, ◌<◌, Option as CodeOption, Some, None}
use Rattle.std.proofs.Math.Option.{Option}
use Rattle.meaning.specs.declared.hall.Hall.{Hall}
use Rattle.meaning.specs.Tables.{Laid}
use Rattle.meaning.specs.Walk.{Position, at, on_circle}
use Rattle.meaning.proofs.walk.Walks.{Reaches}
use Rattle.lent.specs.Nodes.{among, Off}

-- a packet to atom k stands at node v of a hall whose plan is laid: there are 512 atoms and 16 nodes at most
pub record Stands (h : Hall) (k v : ℕ) : Type 0 where
  pub laid : Laid h.plan
  pub atom : k < 512
  pub node : v < 16

-- an owner's word names this link; None: there is no owner
abbrev pub IsNext : ℕ → CodeOption ℕ → Type 0
IsNext e (Some l) = (e ≡ 0 → ⊥) × (l ≡ e / 512 % 64)
IsNext e None = e ≡ 0

-- a move leads to this node, one of 16; None: it leads to no node
unfoldable pub IsLed : CodeOption ℕ → Position → Type 0
IsLed (Some w) p = (p ≡ at w) × (w < 16)
IsLed None p = (w : ℕ) → p ≡ at w → ⊥

-- every node below v is one of a set
abbrev pub Below : ℕ → ℕ → Type 0
Below nodes v = (x : ℕ) → x < v → among nodes x ≡ true

-- of n nodes this is the lowest that is none of a set; None: they are all of the set
unfoldable pub IsFirstOn : ℕ → ℕ → CodeOption ℕ → Type 0
IsFirstOn nodes n (Some v) = (v < n) × Below nodes v × (among nodes v ≡ false)
IsFirstOn nodes n None = Below nodes n

-- every node of a set is one of another
abbrev pub Included : ℕ → ℕ → Type 0
Included nodes more = (x : ℕ) → among nodes x ≡ true → among more x ≡ true

-- none of these lies on a circle, node v and the nodes of a set among them; None: node v lies on one
unfoldable pub IsSeen : (ℕ → Option ℕ) → (ℕ → ℕ) → ℕ → ℕ → ℕ → CodeOption ℕ → Type 0
IsSeen next end n v nodes None = on_circle next end n v ≡ true
IsSeen next end n v nodes (Some more) = Off next end n more × (among more v ≡ true) × Included nodes more

-- each of 16 nodes from which the walk comes to w is one of `to`
pub record ComesBy (next : ℕ → Option ℕ) (end : ℕ → ℕ) (w to : ℕ) : Type 0 where
  pub from : (x : ℕ) → x < 16 → Reaches next end x w → among to x ≡ true
