-- What making a boundary does to the labels and the owners: one atom's are given to another. Assumes nothing: these are definitions.
use Rattle.std.specs.Prelude.{◌≡◌, ◌||◌, ◌&&◌, List, ℕ, ◌<◌, eqb, length}
use Rattle.meaning.specs.Search.{any_below}
use Rattle.meaning.specs.Labels.{on}
use Rattle.lent.specs.Owners.{owner_in, via}

-- the atom new gets the owners of the atom old, and is put on each link that one of them names
pub record Given (label label' owner owner' : List ℕ) (old new : ℕ) : Type 0 where
  pub long : length owner' ≡ length owner
  pub row : (v : ℕ) → v < 16 → owner_in owner' new v ≡ owner_in owner old v
  pub else : (k v : ℕ) → k < 512 → v < 16 → (k ≡ new → ⊥) → owner_in owner' k v ≡ owner_in owner k v
  pub bits : (l k : ℕ) → l < 64 → k < 512
      → on label' l k ≡ on label l k || (eqb k new && any_below 16 (λ v. eqb (via (owner_in owner old v)) l))
