-- Where a packet stands, and where the links of a plan end. Assumes nothing.
use Prim.Native.Nat.{ℕ, ◌<◌, ◌≤◌}
use Rattle.lent.proofs.Questions.{small_atom}
use Rattle.lent.specs.Owners.{end_in, WholeBy}
use Rattle.meaning.proofs.base.Order.{le_or_lt}
use Rattle.meaning.specs.Tables.{Laid}
use Rattle.meaning.specs.declared.hall.Hall.{Hall}
use Rattle.meaning.specs.declared.hall.Plan.{Plan}
use Rattle.questions.specs.Moves.{Stands}
use lib.ListN.{get_or}
use mathlib.Core.Logic.{⊎_elim}
use native.Mathlib.Omega.{arith}

-- a packet to the atom at a place stands at a node of the hall
pub stands_at : {h : Hall} → WholeBy h → {p v : ℕ} → p < h.atoms.count → v < h.plan.nodes → Stands h (get_or h.atoms.number p 0) v
stands_at W {p} {v} hp hv = record { laid = W.sound.laid; atom = small_atom _ _ _ W _ hp; node = omega (arith, hv, W.sound.laid.small) }

-- a link that ends at a node ends at one of 16: a link that is not declared has the word 0
pub ends_at : {p : Plan} → Laid p → (l : ℕ) → end_in p.link l < 256 → end_in p.link l < 16
unfolding end_in
ends_at {p} L l h = ⊎_elim (λ (q : p.links ≤ l). omega (arith, L.unused l q)) (λ (q : l < p.links). omega (arith, L.ends l q h, L.small)) (le_or_lt p.links l)
