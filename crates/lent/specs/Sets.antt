-- Sets of atoms that are carried along the links: which atoms stand where, leave and go on. Assumes nothing: these are definitions.
use Rattle.std.specs.Prelude.{◌≡◌, Bool, true, ◌&&◌, not, List, ℕ, ◌*◌, ◌/◌, ◌≤◌, ◌<◌, ltb, eqb, get_or}
use Rattle.std.proofs.Math.Option.{some}
use Rattle.meaning.specs.Search.{any_below}
use Rattle.meaning.specs.Labels.{on}
use Rattle.meaning.specs.Walk.{at, after}
use Rattle.meaning.proofs.walk.Walks.{Reaches}
use Rattle.lent.specs.Owners.{next_in, end_in}

-- the row of a table of sets for the atoms that go out of the hall: it stands behind the rows of the 16 nodes
abbrev pub out_row : ℕ
out_row = 16

-- the row for the atoms that are lost
abbrev pub lost_row : ℕ
lost_row = 17

-- how many rows a table of sets has
abbrev pub rows : ℕ
rows = 18

-- how many words a table of sets has: each row has eight, as a label has
abbrev pub table_words : ℕ
table_words = 8 * rows

-- the source of link l
abbrev pub source_in : List ℕ → ℕ → ℕ
source_in link l = get_or link l 0 / 1024

-- link l, which a packet to atom k takes at node u: it is declared, starts there and has the atom, and ends at a node of the hall if at a node
pub record Taken (link label : List ℕ) (links nodes k u l : ℕ) : Type 0 where
  pub declared : l < links
  pub here : source_in link l ≡ u
  pub has : on label l k ≡ true
  pub inside : end_in link l < 256 → end_in link l < nodes

-- the labels of the links say which link a packet takes: the atoms on a link take it at its source, and no other link is taken
pub record Carries (link label owner : List ℕ) (links nodes : ℕ) : Type 0 where
  pub few : nodes ≤ 16
  pub source : (l : ℕ) → l < links → source_in link l < 16
  pub takes : (l k : ℕ) → l < links → k < 512 → on label l k ≡ true → next_in owner k (source_in link l) ≡ some l
  pub taken : (k u l : ℕ) → k < 512 → next_in owner k u ≡ some l → Taken link label links nodes k u l

-- an atom stands in the row of a node only where its walk from v comes to that node, and in no row past the nodes'
pub record Reached (link owner : List ℕ) (v : ℕ) (stand : List ℕ) : Type 0 where
  pub comes : (w k : ℕ) → w < rows → k < 512 → on stand w k ≡ true → (w < 16) × Reaches (next_in owner k) (end_in link) v w

-- an atom stands in the row of each node where its walk from v stands after fewer than i moves
pub record Within (link owner : List ℕ) (v i : ℕ) (stand : List ℕ) : Type 0 where
  pub stood : (j k w : ℕ) → j < i → k < 512 → after (next_in owner k) (end_in link) j (at v) ≡ at w → on stand w k ≡ true

-- link l ends at a port: its end's number is from 256 to 511
abbrev pub ends_out : List ℕ → ℕ → Bool
ends_out link l = eqb (end_in link l / 256) 1

-- atom k leaves by link l
unfoldable pub leaves_by : List ℕ → List ℕ → List ℕ → ℕ → ℕ → Bool
leaves_by link label stand k l = ends_out link l && (on stand (source_in link l) k && on label l k)

-- atom k goes on from node u by link l, to a node or out of the hall
unfoldable pub goes_on : List ℕ → List ℕ → ℕ → ℕ → ℕ → Bool
goes_on link label u k l = ltb (end_in link l) 512 && (eqb (source_in link l) u && on label l k)

-- atom k comes to node u, and there is no link there by which it goes on
unfoldable pub lost_at : List ℕ → List ℕ → ℕ → List ℕ → ℕ → ℕ → Bool
lost_at link label links stand k u = on stand u k && not (any_below links (goes_on link label u k))
