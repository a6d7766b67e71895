-- A sweep over the places from f to below t, at node v: the owner at place q goes from g q to h q, place by place.
-- Assumes nothing: these are definitions.
use Rattle.std.specs.Prelude.{◌≡◌, ◌||◌, ◌⊎◌, List, [], ◌∷◌, ◌++◌, ℕ, zero, suc, ◌+◌, ◌-◌, ◌*◌, ◌/◌, ◌%◌, ◌≤◌, ◌<◌, eqb, ltb, length, get_or}
use Rattle.meaning.specs.Search.{pick}
use Rattle.meaning.specs.Changes.{entry_words, overwrite}
use Rattle.meaning.specs.Rule.{link_of, rank, covers}
use Rattle.meaning.specs.Step.{list_room}
use Rattle.meaning.specs.Tables.{Numbers}
use Rattle.lent.specs.Owners.{owner_in, via, Agrees, Starts}
use Rattle.tables.specs.Gathered.{best_in}

-- the owners at node v of the places from f to below t are those of h, and no other owner moves
pub record Swept (number owner₀ owner : List ℕ) (n v f t : ℕ) (h : ℕ → ℕ) : Type 0 where
  pub long : length owner ≡ length owner₀
  pub done : (q : ℕ) → f ≤ q → q < t → owner_in owner (get_or number q 0) v ≡ h q
  pub nodes : (k u : ℕ) → k < 512 → u < 16 → (u ≡ v → ⊥) → owner_in owner k u ≡ owner_in owner₀ k u
  pub places : (q : ℕ) → q < n → (q < f) ⊎ (t ≤ q) → owner_in owner (get_or number q 0) v ≡ owner_in owner₀ (get_or number q 0) v
  pub past : (k : ℕ) → n ≤ k → k < 512 → owner_in owner k v ≡ owner_in owner₀ k v

-- the words of the entries of the changed places from f on, d of them looked at
unfoldable pub entries_from : (ℕ → ℕ) → (ℕ → ℕ) → List ℕ → List ℕ → ℕ → ℕ → List ℕ
entries_from g h cut number f zero = []
entries_from g h cut number f (suc d) =
    entries_from g h cut number f d
    ++ pick (eqb (g (f + d)) (h (f + d))) []
    (get_or number (f + d) 0 ∷ get_or cut (f + d) 0 ∷ get_or cut (f + d + 1) 0 ∷ via (g (f + d)) ∷ via (h (f + d)) ∷ [])

-- the list has the entries of the changed places from f to below f + d, k of them
pub record WroteEntries (g h : ℕ → ℕ) (cut number : List ℕ) (f d : ℕ) (list list' : List ℕ) (k : ℕ) : Type 0 where
  pub words : list' ≡ overwrite (entries_from g h cut number f d) list
  pub count : length (entries_from g h cut number f d) ≡ entry_words * k
  pub few : k ≤ d

-- ---- the owners before and after, over the width of the addresses

-- the owner at place q
abbrev pub owner_by : List ℕ → List ℕ → ℕ → ℕ → ℕ
owner_by owner number v q = owner_in owner (get_or number q 0) v

-- rule w as an owner, by the rules' words
unfoldable pub owner_for : ℕ → List ℕ → ℕ → ℕ
owner_for width rule w = pick (ltb w 256) (link_of width (get_or rule w 0) * 512 + (w + 1)) 0

-- of an owner and a new rule, mine, the one of higher rank
unfoldable pub raised : ℕ → List ℕ → ℕ → ℕ → ℕ → ℕ
raised width rule mine r e = pick (eqb e 0 || ltb (rank width (get_or rule (e % 512 - 1) 0)) r) mine e

-- an owner, or where it is the rule that has gone the best for address a of the gathered ones
unfoldable pub heir_of : ℕ → List ℕ → List ℕ → ℕ → ℕ → ℕ → ℕ → ℕ
heir_of width rule among count gone a e =
    pick (eqb e gone) (owner_for width rule (best_in (λ k. covers width (get_or rule k 0) a) (λ k. rank width (get_or rule k 0)) among count)) e

-- what a sweep needs: the places, the node and the room
pub record Ready (number owner list : List ℕ) (n v f t : ℕ) : Type 0 where
  pub numbers : Numbers number n
  pub few : n ≤ 512
  pub order : f ≤ t
  pub within : t ≤ n
  pub node : v < 16
  pub size : length owner ≡ 8192
  pub room : list_room ≤ length list

-- what a sweep to the owners of h leaves
pub record SweptAll (cut number : List ℕ) (n v f t : ℕ) (g h : ℕ → ℕ) (label label' owner owner' list list' : List ℕ) (r : ℕ) : Type 0 where
  pub owners : Swept number owner owner' n v f t h
  pub labels : (link : List ℕ) → Agrees link label owner → Starts link owner
      → ((q : ℕ) → f ≤ q → q < t → (h q ≡ 0 → ⊥) → get_or link (via (h q)) 0 / 1024 ≡ v) → Agrees link label' owner'
  pub words : WroteEntries g h cut number f (t - f) list list' r

-- what a sweep leaves where P says at each place which owner may come to be there; at each place t on the way it is the sweep's invariant
pub record SweptBy (P : ℕ → ℕ → Type 0) (cut number : List ℕ) (n v f t : ℕ) (g : ℕ → ℕ) (label label' owner owner' list list' : List ℕ) (r : ℕ) : Type 0 where
  pub after : ℕ → ℕ
  pub each : (q : ℕ) → f ≤ q → q < t → P q (after q)
  pub all : SweptAll cut number n v f t g after label label' owner owner' list list' r
