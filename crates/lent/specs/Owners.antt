-- The owners and the labels entry by entry, as code keeps them, and when the whole box is in order. Assumes nothing: these are definitions.
use Rattle.std.specs.Prelude.{◌≡◌, List, ℕ, ◌+◌, ◌*◌, ◌/◌, ◌%◌, ◌^◌, ◌≤◌, ◌<◌, ltb, eqb, length, get_or}
use Rattle.std.proofs.Math.Option.{Option, none, some}
use Rattle.meaning.specs.Search.{pick}
use Rattle.meaning.specs.Hall.{State}
use Rattle.meaning.specs.Winner.{winner}
use Rattle.meaning.specs.Labels.{on}
use Rattle.meaning.specs.Working.{owner_word}
use Rattle.meaning.specs.Changes.{entries_at, overwrite, no_link}
use Rattle.meaning.specs.declared.hall.Hall.{Hall}
use Rattle.meaning.specs.Records.{Update}
use Rattle.meaning.specs.Step.{listed, updated, node_of}
use Rattle.meaning.specs.Box.{state_of}
use Rattle.meaning.specs.Tables.{Sound}

-- the owner of atom k at node v
abbrev pub owner_in : List ℕ → ℕ → ℕ → ℕ
owner_in owner k v = get_or owner (16 * k + v) 0

-- the link that an owner names, or `no_link`
unfoldable pub via : ℕ → ℕ
via e = pick (eqb e 0) no_link (e / 512 % 64)

unfoldable pub via_link : ℕ → Option ℕ
via_link e = pick (eqb e 0) none (some (e / 512 % 64))

-- the link that a packet to atom k takes at node v, and the number of a link's end, by the tables
unfoldable pub next_in : List ℕ → ℕ → ℕ → Option ℕ
next_in owner k v = pick (ltb v 16) (via_link (owner_in owner k v)) none

unfoldable pub end_in : List ℕ → ℕ → ℕ
end_in link l = get_or link l 0 % 1024

-- what the type of a label table says of its list
pub record Words (label : List ℕ) : Type 0 where
  pub size : length label ≡ 512
  pub word : (i : ℕ) → get_or label i 0 < 2 ^ 64

-- the owners are those of the state: at each place the winner at each node, and nothing past the atoms
pub record Owned (m : State) (owner : List ℕ) : Type 0 where
  pub long : length owner ≡ 8192
  pub right : (p v : ℕ) → p < m.atoms.count → v < 16 → owner_in owner (get_or m.atoms.number p 0) v ≡ owner_word m (winner m v (get_or m.atoms.cut p 0))
  pub rest : (k v : ℕ) → m.atoms.count ≤ k → k < 512 → v < 16 → owner_in owner k v ≡ 0

-- the labels agree with the owners: an atom is on a link just where its owner at the link's source names it
pub record Agrees (link label owner : List ℕ) : Type 0 where
  pub bits : (l k : ℕ) → l < 64 → k < 512 → on label l k ≡ eqb (via (owner_in owner k (get_or link l 0 / 1024))) l

-- an owner's link starts at the owner's node
pub record Starts (link owner : List ℕ) : Type 0 where
  pub here : (k v : ℕ) → k < 512 → v < 16 → (owner_in owner k v ≡ 0 → ⊥) → get_or link (via (owner_in owner k v)) 0 / 1024 ≡ v

-- where an owner's link ends at a node, that node is one of 16
pub record Ends (link owner : List ℕ) : Type 0 where
  pub inside : (k v : ℕ) → k < 512 → v < 16 → (owner_in owner k v ≡ 0 → ⊥) → end_in link (owner_in owner k v / 512 % 64) < 256 → end_in link (owner_in owner k v / 512 % 64) < 16

-- an owner holds a rule's number, counted from 1
pub record Numbered (owner : List ℕ) : Type 0 where
  pub from : (k v : ℕ) → k < 512 → v < 16 → (owner_in owner k v ≡ 0 → ⊥) → 0 < owner_in owner k v % 512
  pub upto : (k v : ℕ) → k < 512 → v < 16 → owner_in owner k v % 512 ≤ 256

-- the box is in order
pub record Whole (m : State) (label owner : List ℕ) : Type 0 where
  pub sound : Sound m
  pub owned : Owned m owner
  pub agrees : Agrees m.plan.link label owner

-- the same of a hall
abbrev pub WholeBy : Hall → Type 0
WholeBy h = Whole (state_of h) h.label h.owner

-- what an update leaves beside the state: the tables in order, the list and its length
pub record Listed (m m' : State) (v : ℕ) (label owner list list' : List ℕ) (entries : ℕ) : Type 0 where
  pub whole : Whole m' label owner
  pub written : list' ≡ overwrite (entries_at m m' v (listed m m' v)) list
  pub count : entries ≡ length (listed m m' v)

-- the same of a hall before and after
abbrev pub ListedIn : Hall → Hall → Update → List ℕ → List ℕ → ℕ → Type 0
ListedIn h h' u list list' entries = Listed (state_of h) (updated (state_of h) u) (node_of (state_of h) u) h'.label h'.owner list list' entries
