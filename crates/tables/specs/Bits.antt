-- What putting, taking off and moving one atom does to the label words, by membership, and links that may be none. Assumes nothing: these
-- are definitions.
use Rattle.std.specs.Prelude.{◌≡◌, true, false, ◌||◌, ◌&&◌, not, List, ℕ, ◌<◌, eqb, Option, IfSome, unwrap_or}
use Rattle.meaning.specs.Search.{pick}
use Rattle.meaning.specs.Labels.{on}
use Rattle.meaning.specs.Changes.{no_link}

-- atom k is put on link l, and nothing else changes
pub record Put (before after : List ℕ) (l k : ℕ) : Type 0 where
  pub member : (m j : ℕ) → m < 64 → j < 512 → on after m j ≡ on before m j || (eqb m l && eqb j k)

-- atom k is taken off link l, and nothing else changes
pub record TakenOff (before after : List ℕ) (l k : ℕ) : Type 0 where
  pub member : (m j : ℕ) → m < 64 → j < 512 → on after m j ≡ on before m j && not (eqb m l && eqb j k)

-- atom k is moved from link o to link n, where each may be `no_link`; no other atom moves
pub record Moved (before after : List ℕ) (o n k : ℕ) : Type 0 where
  pub at : (l : ℕ) → l < 64 → on after l k ≡ pick (eqb n l) true (pick (eqb o l) false (on before l k))
  pub else : (l j : ℕ) → l < 64 → j < 512 → (j ≡ k → ⊥) → on after l j ≡ on before l j

-- a link, where there is one, is one of 64
abbrev pub IsLink : Option ℕ → Type 0
IsLink link = IfSome link (λ l. l < 64)

-- the number of a link, `no_link` where there is none
abbrev pub link_number : Option ℕ → ℕ
link_number link = unwrap_or link no_link
