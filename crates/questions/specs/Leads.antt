-- Which node leads to which by a link that has an atom, and what that shows of the walks of all atoms. Assumes nothing: these are definitions.
use Rattle.std.specs.Prelude.{◌≡◌, Bool, true, false, List, ℕ, ◌/◌, ◌%◌, ◌<◌, get_or}
use Rattle.meaning.specs.declared.hall.Hall.{Hall}
use Rattle.meaning.specs.Labels.{on}
use Rattle.lent.specs.Owners.{next_in, end_in, Agrees, Starts, Ends}
use Rattle.lent.specs.Nodes.{among, Off}
use Rattle.questions.specs.Moves.{ComesBy}

-- ---- leads

-- link l has no atom
pub record Empty (label : List ℕ) (l : ℕ) : Type 0 where
  pub none_on : (k : ℕ) → k < 512 → on label l k ≡ false

-- node v leads to node u: the bit u of v's word is set
abbrev pub leads_to : List ℕ → ℕ → ℕ → Bool
leads_to lead v u = among (get_or lead v 0) u

-- each link below n that has an atom, and goes from one of 16 nodes to one of 16: there the one leads to the other
pub record Leads (hall : Hall) (n : ℕ) (lead : List ℕ) : Type 0 where
  pub by : (l k : ℕ) → l < n → k < 512 → on hall.label l k ≡ true → get_or hall.plan.link l 0 / 1024 < 16 → get_or hall.plan.link l 0 % 1024 < 16
      → leads_to lead (get_or hall.plan.link l 0 / 1024) (get_or hall.plan.link l 0 % 1024) ≡ true

-- node v leads to node u from now on, and what led before leads still
pub record LetLead (before after : List ℕ) (v u : ℕ) : Type 0 where
  pub kept : (x y : ℕ) → leads_to before x y ≡ true → leads_to after x y ≡ true
  pub new : leads_to after v u ≡ true

-- ---- sets that grow

-- from a set of nodes to another by steps of R
pub data Grown (R : ℕ → ℕ → Type 0) (start : ℕ) : ℕ → Type 0 where
  started : Grown R start start
  grew : (x y : ℕ) → Grown R start x → R x y → Grown R start y

-- ---- circles of leads

-- each node of C is one of 16, leads to a node of C, and is led to by one: so it is where C has the nodes of circles
pub record Circular (lead : List ℕ) (C : ℕ → Bool) : Type 0 where
  pub small : (v : ℕ) → C v ≡ true → v < 16
  pub on : (v : ℕ) → C v ≡ true → (u : ℕ) × (C u ≡ true) × (leads_to lead v u ≡ true)
  pub back : (v : ℕ) → C v ≡ true → (u : ℕ) × (C u ≡ true) × (leads_to lead u v ≡ true)

-- none of these nodes lies on a circle of leads
pub record OffLeads (lead : List ℕ) (off : ℕ) : Type 0 where
  pub none_in : (C : ℕ → Bool) → Circular lead C → (v : ℕ) → among off v ≡ true → C v ≡ false

-- `met` has each node to which a node leads that is below n and none of `off`
pub record Met (lead : List ℕ) (off n met : ℕ) : Type 0 where
  pub led : (v u : ℕ) → v < n → among off v ≡ false → leads_to lead v u ≡ true → among met u ≡ true

-- ---- what leads to a node

-- `more` has the nodes of `to`, and each below n that leads to one of them
pub record Widened (lead : List ℕ) (to n more : ℕ) : Type 0 where
  pub kept : (v : ℕ) → among to v ≡ true → among more v ≡ true
  pub back : (v u : ℕ) → v < n → leads_to lead v u ≡ true → among to u ≡ true → among more v ≡ true

-- `to` has node w, and each node that leads to one of its own
pub record TowardLeads (lead : List ℕ) (w to : ℕ) : Type 0 where
  pub start : w < 16 → among to w ≡ true
  pub back : (v u : ℕ) → v < 16 → leads_to lead v u ≡ true → among to u ≡ true → among to v ≡ true

-- ---- the walks of all atoms

-- the tables say the same: an atom is on a link just where its owner names it, and an owner's link goes from its node to one of 16
pub record Together (link label owner : List ℕ) : Type 0 where
  pub agrees : Agrees link label owner
  pub starts : Starts link owner
  pub ends : Ends link owner

-- no node of `off` lies on a circle of any atom
pub record OffWalks (hall : Hall) (off : ℕ) : Type 0 where
  pub each : (owner : List ℕ) → Together hall.plan.link hall.label owner → (n k : ℕ) → k < 512 → Off (next_in owner k) (end_in hall.plan.link) n off

-- `to` has each node from which the walk of any atom comes to w
pub record TowardWalks (hall : Hall) (w to : ℕ) : Type 0 where
  pub each : (owner : List ℕ) → Together hall.plan.link hall.label owner → (k : ℕ) → k < 512 → ComesBy (next_in owner k) (end_in hall.plan.link) w to
