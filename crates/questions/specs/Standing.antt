-- What the functions that carry sets of atoms along links do to a table of such sets: rows of eight words, as a label's, row w for node w.
-- `out_row` is for the atoms that go out of the hall, `lost_row` for those that are lost. Assumes nothing: these are definitions.
use Rattle.std.specs.Prelude.{◌≡◌, ◌⊎◌, Bool, true, false, ◌||◌, ◌&&◌, not, List, ℕ, ◌<◌, eqb, length, get_or}
use Rattle.meaning.specs.declared.hall.Hall.{Hall}
use Rattle.meaning.specs.Search.{any_below}
use Rattle.meaning.specs.Labels.{on}
use Rattle.meaning.specs.Questions.{is_out, is_lost}
use Rattle.meaning.specs.Walk.{fate_in}
use Rattle.lent.specs.Owners.{next_in, end_in}
use Rattle.lent.specs.Nodes.{among}
use Rattle.lent.specs.Sets.{out_row, lost_row, rows, table_words, source_in, Carries, Reached, Within, leaves_by, goes_on}

-- row v has all atoms, and the other rows none
pub record Filled (v : ℕ) (stand : List ℕ) : Type 0 where
  pub size : length stand ≡ table_words
  pub member : (u k : ℕ) → u < rows → k < 512 → on stand u k ≡ eqb u v

-- the atoms of row s that are in a set have joined row r; nothing is new where `grew` is false
pub record JoinedRow (has : ℕ → Bool) (s r : ℕ) (before after : List ℕ) (grew : Bool) : Type 0 where
  pub size : length after ≡ table_words
  pub member : (u k : ℕ) → u < rows → k < 512 → on after u k ≡ on before u k || (eqb u r && (on before s k && has k))
  pub still : grew ≡ false → (u k : ℕ) → u < rows → k < 512 → on after u k ≡ on before u k

-- the atoms of a set are taken out of row s
pub record TakenAway (has : ℕ → Bool) (s : ℕ) (before after : List ℕ) : Type 0 where
  pub size : length after ≡ table_words
  pub member : (u k : ℕ) → u < rows → k < 512 → on after u k ≡ on before u k && not (eqb u s && has k)

-- no row has lost an atom
abbrev pub Kept : List ℕ → List ℕ → Type 0
Kept before after = (u k : ℕ) → u < rows → k < 512 → on before u k ≡ true → on after u k ≡ true

-- each node's links to nodes, as a set of links, a bit for each
pub record Leaving (link : List ℕ) (links : ℕ) (leaving : List ℕ) : Type 0 where
  pub size : length leaving ≡ 16
  pub all : (l : ℕ) → l < links → end_in link l < 16 → among (get_or leaving (source_in link l) 0) l ≡ true
  pub only : (u l : ℕ) → u < 16 → l < 64 → among (get_or leaving u 0) l ≡ true → l < links

-- the atoms that stood at the source of a link to a node, and are on the link, stand at the node
abbrev pub CarriedOn : Hall → List ℕ → List ℕ → Type 0
CarriedOn hall before after = (l k : ℕ) → l < hall.plan.links → k < 512 → end_in hall.plan.link l < 16 → on before (source_in hall.plan.link l) k ≡ true → on hall.label l k ≡ true → on after (end_in hall.plan.link l) k ≡ true

-- all links to nodes but those of a set, each of them declared, have carried on all their atoms
pub record SettledBut (hall : Hall) (but : ℕ) (stand : List ℕ) : Type 0 where
  pub on_all : (l k : ℕ) → l < hall.plan.links → k < 512 → end_in hall.plan.link l < 16 → among but l ≡ false → on stand (source_in hall.plan.link l) k ≡ true → on hall.label l k ≡ true
      → on stand (end_in hall.plan.link l) k ≡ true
  pub declared : (l : ℕ) → l < 64 → among but l ≡ true → l < hall.plan.links

-- link l, where it leads to a node, has carried its atoms on; the links from a row that grew are in `more`, each of them declared
pub record Along (hall : Hall) (l : ℕ) (before after : List ℕ) (more : ℕ) : Type 0 where
  pub size : length after ≡ table_words
  pub kept : Kept before after
  pub only : (u k : ℕ) → u < rows → k < 512 → on after u k ≡ true
      → (on before u k ≡ true) ⊎ ((u ≡ end_in hall.plan.link l) × (u < 16) × (on before (source_in hall.plan.link l) k ≡ true) × (on hall.label l k ≡ true))
  pub took : (k : ℕ) → k < 512 → end_in hall.plan.link l < 16 → on before (source_in hall.plan.link l) k ≡ true → on hall.label l k ≡ true → on after (end_in hall.plan.link l) k ≡ true
  pub still : (m k : ℕ) → m < hall.plan.links → k < 512 → end_in hall.plan.link m < 16 → among more m ≡ false → on after (source_in hall.plan.link m) k ≡ on before (source_in hall.plan.link m) k
  pub declared : (m : ℕ) → m < 64 → among more m ≡ true → m < hall.plan.links

-- a round: no atom stands where its walk does not come to, and what stood before the round has moved on once.
-- What is still to be carried on is carried by the links of `next`
pub record Round (hall : Hall) (before after : List ℕ) (next : ℕ) : Type 0 where
  pub size : length after ≡ table_words
  pub kept : Kept before after
  pub reached : (owner : List ℕ) (nodes v : ℕ) → Carries hall.plan.link hall.label owner hall.plan.links nodes → Reached hall.plan.link owner v before → Reached hall.plan.link owner v after
  pub took : CarriedOn hall before after
  pub settled : SettledBut hall next after

-- each node's row has the atoms whose walks from v come to it
pub record Spread (hall : Hall) (v : ℕ) (stand : List ℕ) : Type 0 where
  pub size : length stand ≡ table_words
  pub reached : (owner : List ℕ) (nodes : ℕ) → Carries hall.plan.link hall.label owner hall.plan.links nodes → Reached hall.plan.link owner v stand
  pub within : (owner : List ℕ) (nodes : ℕ) → Carries hall.plan.link hall.label owner hall.plan.links nodes → Within hall.plan.link owner v 16 stand

-- the atoms that leave by a link have joined the row of those that go out
pub record Outward (hall : Hall) (n : ℕ) (before after : List ℕ) : Type 0 where
  pub size : length after ≡ table_words
  pub out : (k : ℕ) → k < 512 → on after out_row k ≡ on before out_row k || any_below n (leaves_by hall.plan.link hall.label before k)
  pub else : (u k : ℕ) → u < rows → k < 512 → (u ≡ out_row → ⊥) → on after u k ≡ on before u k

-- each row keeps the atoms that no link takes on
pub record Stayed (hall : Hall) (n : ℕ) (before after : List ℕ) : Type 0 where
  pub size : length after ≡ table_words
  pub member : (u k : ℕ) → u < rows → k < 512 → on after u k ≡ on before u k && not (any_below n (goes_on hall.plan.link hall.label u k))

-- the atoms of the first n rows have joined the row of those that are lost
pub record Gathered (n : ℕ) (before after : List ℕ) : Type 0 where
  pub size : length after ≡ table_words
  pub lost : (k : ℕ) → k < 512 → on after lost_row k ≡ on before lost_row k || any_below n (λ u. on before u k)
  pub else : (u k : ℕ) → u < lost_row → k < 512 → on after u k ≡ on before u k

-- `out_row` has the atoms that go out from v, and `lost_row` those that are lost
pub record Divided (hall : Hall) (v : ℕ) (stand : List ℕ) : Type 0 where
  pub out : (owner : List ℕ) (nodes k : ℕ) → Carries hall.plan.link hall.label owner hall.plan.links nodes → v < nodes → k < 512 → on stand out_row k ≡ is_out (fate_in (next_in owner k) (end_in hall.plan.link) nodes 0 v)
  pub lost : (owner : List ℕ) (nodes k : ℕ) → Carries hall.plan.link hall.label owner hall.plan.links nodes → v < nodes → k < 512 → on stand lost_row k ≡ is_lost (fate_in (next_in owner k) (end_in hall.plan.link) nodes 0 v)
