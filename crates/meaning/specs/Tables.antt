-- Tables and states in order: boundaries that rise from 0 to the top, numbers that are apart, and what holds of every state that came by records.
-- What the laws and the code's proofs speak of, and nothing that a reader must believe. Assumes nothing: these are definitions.
use Rattle.std.specs.Prelude.{◌≡◌, List, true, false, ℕ, ◌+◌, ◌/◌, ◌%◌, ◌≤◌, ◌<◌, length, get_or}
use Rattle.meaning.specs.declared.hall.Phase.TheVariants.{Bare}
use Rattle.meaning.specs.Hall.{Plan, stage, State, top}
use Rattle.meaning.specs.Rule.{live, lower, upper, link_of, rank, overlap}
use Rattle.meaning.specs.Winner.{rule_at, node_for}

-- cut p is the lower end of place p, and cut (p + 1) its upper end
pub record Cuts (top : ℕ) (cut : List ℕ) (n : ℕ) : Type 0 where
  pub long : length cut ≡ 513
  pub room : n ≤ 512
  pub first : get_or cut 0 0 ≡ 0
  pub up : (p q : ℕ) → p < q → q ≤ n → get_or cut p 0 < get_or cut q 0
  pub last : get_or cut n 0 ≡ top
  pub rest : (p : ℕ) → n < p → get_or cut p 0 ≡ 0

-- place p holds address a
pub record Holds (cut : List ℕ) (n a p : ℕ) : Type 0 where
  pub within : p < n
  pub from : get_or cut p 0 ≤ a
  pub below : a < get_or cut (p + 1) 0

-- the atoms' numbers by place: 0 .. n - 1, each once, and then zeros
pub record Numbers (number : List ℕ) (n : ℕ) : Type 0 where
  pub long : length number ≡ 512
  pub small : (p : ℕ) → p < n → get_or number p 0 < n
  pub apart : (p q : ℕ) → p < q → q < n → get_or number p 0 ≡ get_or number q 0 → ⊥
  pub rest : (p : ℕ) → n ≤ p → get_or number p 0 ≡ 0

-- x is one of the cuts
pub record Boundary (cut : List ℕ) (n x : ℕ) : Type 0 where
  pub place : ℕ
  pub within : place ≤ n
  pub is : get_or cut place 0 ≡ x

abbrev pub BoundaryOf : State → ℕ → Type 0
BoundaryOf m x = Boundary m.atoms.cut m.atoms.count x

-- every live rule starts and ends at a boundary
abbrev pub Aligned : State → Type 0
Aligned m = (i : ℕ) → i < 256 → live (rule_at m i) ≡ true → BoundaryOf m (lower m.width (rule_at m i)) × BoundaryOf m (upper m.width (rule_at m i))

-- the plan: its tables have their lengths, a link starts at a node and may end at one, and there is nothing before the hall record
pub record Laid (p : Plan) : Type 0 where
  pub long : length p.link ≡ 64
  pub few : p.links ≤ 64
  pub small : p.nodes ≤ 16
  pub sources : (l : ℕ) → l < p.links → get_or p.link l 0 / 1024 < p.nodes
  pub ends : (l : ℕ) → l < p.links → get_or p.link l 0 % 1024 < 256 → get_or p.link l 0 % 1024 < p.nodes
  pub unused : (l : ℕ) → p.links ≤ l → get_or p.link l 0 ≡ 0
  pub bare : p.phase ≡ Bare → (p.links ≡ 0) × (p.nodes ≡ 0)

-- the whole state; no rule is live before the close
pub record Sound (m : State) : Type 0 where
  pub wide : 0 < m.width
  pub laid : Laid m.plan
  pub cuts : Cuts (top m) m.atoms.cut m.atoms.count
  pub numbers : Numbers m.atoms.number m.atoms.count
  pub rules : length m.rule ≡ 256
  pub aligned : Aligned m
  pub named : (i : ℕ) → i < 256 → live (rule_at m i) ≡ true → link_of m.width (rule_at m i) < m.plan.links
  pub distinct : (i j : ℕ) → i < 256 → j < 256 → live (rule_at m i) ≡ true → live (rule_at m j) ≡ true
      → node_for m (rule_at m i) ≡ node_for m (rule_at m j) → rank m.width (rule_at m i) ≡ rank m.width (rule_at m j)
      → overlap m.width (rule_at m i) (rule_at m j) ≡ true → i ≡ j
  pub idle : stage m.plan.phase < 2 → (i : ℕ) → live (rule_at m i) ≡ false
