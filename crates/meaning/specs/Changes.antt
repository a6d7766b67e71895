-- The change list: the places, by rising address, whose winner at a node changed, and what is written of each.
-- Assumes nothing: these are definitions.
use Rattle.std.specs.Prelude.{List, [], ◌∷◌, ◌++◌, Bool, not, ℕ, zero, suc, ◌+◌, eqb, length, get_or, drop}
use Rattle.std.proofs.Math.Option.{Option, none, some}
use Rattle.meaning.specs.Search.{pick}
use Rattle.meaning.specs.Hall.{State}
use Rattle.meaning.specs.Winner.{winner, next_at}

-- what stands for no link, where a link is a number below 64
abbrev pub no_link : ℕ
no_link = 64

-- a link as an entry of the list writes it
unfoldable pub link_or_none : Option ℕ → ℕ
link_or_none none = no_link
link_or_none (some l) = l

-- how many words an entry has
abbrev pub entry_words : ℕ
entry_words = 5

module _ (old new : State) (v : ℕ) where
  -- the winner at v changed at place p of the new state: the rule, so that its link may be the same
  unfoldable pub changed_at : ℕ → Bool
  changed_at p = not (eqb (winner old v (get_or new.atoms.cut p 0)) (winner new v (get_or new.atoms.cut p 0)))

  -- the changed places among the first n
  unfoldable pub changed_places : ℕ → List ℕ
  changed_places zero = []
  changed_places (suc p) = changed_places p ++ pick (changed_at p) (p ∷ []) []

  -- an entry: atom number, lower end, upper end, old link, new link
  unfoldable pub entry_at : ℕ → List ℕ
  entry_at p =
      get_or new.atoms.number p 0
      ∷ get_or new.atoms.cut p 0
      ∷ get_or new.atoms.cut (p + 1) 0
      ∷ link_or_none (next_at old (get_or new.atoms.cut p 0) v)
      ∷ link_or_none (next_at new (get_or new.atoms.cut p 0) v)
      ∷ []

  -- the entries of these places
  unfoldable pub entries_at : List ℕ → List ℕ
  entries_at [] = []
  entries_at (p ∷ ps) = entry_at p ++ entries_at ps

-- a lent list with these words at its front, and the rest as it was
unfoldable pub overwrite : List ℕ → List ℕ → List ℕ
overwrite written old = written ++ drop (length written) old
