-- Sets of nodes, a bit for each, and those of which it is seen that they lie on no circle. Assumes nothing: these are definitions.
use Rattle.std.specs.Prelude.{◌≡◌, Bool, true, false, ℕ, eqb}
use Rattle.std.proofs.Math.Option.{Option}
use Rattle.meaning.specs.Labels.{bit}
use Rattle.meaning.specs.Walk.{on_circle}

-- node u is one of a set
abbrev pub among : ℕ → ℕ → Bool
among nodes u = eqb (bit nodes u) 1

-- none of these nodes lies on a circle
pub record Off (next : ℕ → Option ℕ) (end : ℕ → ℕ) (n nodes : ℕ) : Type 0 where
  pub none_on : (x : ℕ) → among nodes x ≡ true → on_circle next end n x ≡ false
