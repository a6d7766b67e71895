-- Boundaries and atoms. `cut` has the boundaries of n atoms by rising address, n + 1 of them; place p is the range from
-- boundary p up to, and not with, boundary p + 1, and `number` has the number of the atom there. Assumes nothing: these are definitions.
use Rattle.std.specs.Prelude.{List, [], ◌∷◌, Bool, ℕ, zero, suc, ◌+◌, leb, eqb, get_or}
use Rattle.meaning.specs.Search.{pick}
use Rattle.meaning.specs.Hall.{Atoms, State}

-- the place of address a: the last, up to n, whose lower end is at most a
unfoldable pub place_of : List ℕ → ℕ → ℕ → ℕ
place_of cut zero a = 0
place_of cut (suc k) a = pick (leb (get_or cut (suc k) 0) a) (suc k) (place_of cut k a)

-- b is a boundary
unfoldable pub is_cut : List ℕ → ℕ → ℕ → Bool
is_cut cut n b = eqb (get_or cut (place_of cut n b) 0) b

-- b bounds an atom of the state
abbrev pub is_boundary : State → ℕ → Bool
is_boundary m b = is_cut m.atoms.cut m.atoms.count b

-- v goes in at place p, what stood there and above moves up one place, and the last entry goes out
unfoldable pub insert_at : ℕ → ℕ → List ℕ → List ℕ
insert_at p v [] = []
insert_at zero v (x ∷ xs) = v ∷ insert_at zero x xs
insert_at (suc p) v (x ∷ xs) = x ∷ insert_at p v xs

-- b is made a boundary, if it is none: the part below b keeps the atom's number, and the part from b on takes the number k
unfoldable pub split_cut : List ℕ → ℕ → ℕ → List ℕ
split_cut cut n b = pick (is_cut cut n b) cut (insert_at (place_of cut n b + 1) b cut)

unfoldable pub split_number : List ℕ → List ℕ → ℕ → ℕ → ℕ → List ℕ
split_number cut number n k b = pick (is_cut cut n b) number (insert_at (place_of cut n b + 1) k number)

unfoldable pub split_count : List ℕ → ℕ → ℕ → ℕ
split_count cut n b = pick (is_cut cut n b) n (n + 1)

-- the number that the next atom takes: they are numbered as they arise
abbrev pub next_number : Atoms → ℕ
next_number a = a.count

-- the atoms, and the state, with b made a boundary
abbrev pub split : Atoms → ℕ → Atoms
split a b = record {
  count = split_count a.cut a.count b;
  cut = split_cut a.cut a.count b;
  number = split_number a.cut a.number a.count (next_number a) b;
}

unfoldable pub with_cut : State → ℕ → State
with_cut m b = record { width = m.width; plan = m.plan; rule = m.rule; atoms = split m.atoms b }
