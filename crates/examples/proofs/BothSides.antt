-- The document's boundary cases, both sides of each, and the order of the checks: records and what the definitions answer, in one table.
-- Assumes nothing.
use mathlib.Core.Path.{◌≡◌, refl, ap, ◌∙◌}
use mathlib.Core.List.{List, [], ◌∷◌, ◌++◌}
use Prim.Native.Nat.{ℕ, zero, suc, ◌*◌}
use lib.ListN.{length, get_or, replicate}
use Rattle.meaning.specs.declared.Refusal.TheVariants.{ShortList, UnknownKind, CutOff, OutOfOrder, NoNode, NoLink, LinksFull, NoEnd, NoRule, RuleLive, RuleNotLive, NoPrefix, Tie}
use Rattle.meaning.specs.declared.Answer.{Answer}
use Rattle.meaning.specs.declared.Answer.TheVariants.{End, Refused, Ok, Changed, Loop, Went, Yes, No, Tally}
use Rattle.meaning.specs.declared.Fate.TheVariants.{Out, Lost, Round}
use Rattle.meaning.specs.Search.{tabulate}
use Rattle.meaning.specs.Hall.{zeroes, fresh}
use Rattle.meaning.specs.Labels.{names, is_on, word_of, labels_of}
use Rattle.meaning.specs.Changes.{overwrite}
use Rattle.meaning.specs.Step.{list_room, step_of}
use Rattle.meaning.specs.Working.{step_in}
use Rattle.meaning.specs.Run.{start, Ran, run_from}
use Rattle.examples.specs.Lines.{Line, lines_from, lines_of}
use Rattle.examples.proofs.ByPlaces.{lines_in, run_in}
use Rattle.examples.proofs.Listing.{opened}

-- a record's bytes, and what it is answered and writes
pub record Row : Type 0 where
  pub bytes : List ℕ
  pub answer : Answer
  pub written : List ℕ

abbrev row : List ℕ → Answer → List ℕ → Row
row s a w = record { bytes = s; answer = a; written = w }

-- the records of the rows one after another, and their lines
unfoldable pub bytes_of : List Row → List ℕ
bytes_of [] = []
bytes_of (r ∷ rs) = r.bytes ++ bytes_of rs

unfoldable pub answers_of : List Row → List Line
answers_of [] = []
answers_of (r ∷ rs) = record { answer = r.answer; written = r.written } ∷ answers_of rs

unfoldable pub table : List Row
table =
    row (0x02 ∷ 0x00 ∷ 0x00 ∷ 0x00 ∷ []) (Refused OutOfOrder) []  -- a link before the hall
    ∷ row (0x01 ∷ 0x00 ∷ []) (Refused NoNode) []  -- no node
    ∷ row (0x01 ∷ 0x11 ∷ []) (Refused NoNode) []  -- 17 nodes
    ∷ row (0x01 ∷ 0x10 ∷ []) Ok []  -- 16 nodes
    ∷ row (0x01 ∷ 0x11 ∷ []) (Refused OutOfOrder) []  -- a second hall, with a bad count: 3 before 4
    ∷ row (0x02 ∷ 0x10 ∷ 0x03 ∷ 0x00 ∷ []) (Refused NoNode) []  -- a source that is no node, with a bad end code: 4 before 7
    ∷ row (0x02 ∷ 0x0F ∷ 0x03 ∷ 0x00 ∷ []) (Refused NoEnd) []  -- an end code above 2
    ∷ row (0x02 ∷ 0x0F ∷ 0x02 ∷ 0x01 ∷ []) (Refused NoEnd) []  -- the drop with a number
    ∷ row (0x02 ∷ 0x0F ∷ 0x00 ∷ 0x10 ∷ []) (Refused NoNode) []  -- an end that is no node
    ∷ row (0x02 ∷ 0x0F ∷ 0x00 ∷ 0x0F ∷ []) Ok []  -- link 0, which ends at its own source
    ∷ row (0x02 ∷ 0x00 ∷ 0x01 ∷ 0xFF ∷ []) Ok []  -- link 1, to port 255
    ∷ row (0x02 ∷ 0x00 ∷ 0x02 ∷ 0x00 ∷ []) Ok []  -- link 2, to the drop
    ∷ row (0x02 ∷ 0x00 ∷ 0x00 ∷ 0x0F ∷ []) Ok []  -- link 3, from node 0 to node 15
    ∷ row (0x06 ∷ []) (Refused OutOfOrder) []  -- a question before the close
    ∷ row (0x03 ∷ []) Ok []  -- the close
    ∷ row (0x03 ∷ []) (Refused OutOfOrder) []  -- a second close
    ∷ row (0x04 ∷ 0x01 ∷ 0x00 ∷ 0x04 ∷ 0x0A ∷ 0x00 ∷ 0x00 ∷ 0x01 ∷ 0x21 ∷ 0x00 ∷ 0x05 ∷ []) (Refused NoRule) []  -- rule 256, with all else wrong
    ∷ row (0x04 ∷ 0x00 ∷ 0xFF ∷ 0x04 ∷ 0x0A ∷ 0x00 ∷ 0x00 ∷ 0x01 ∷ 0x21 ∷ 0x00 ∷ 0x05 ∷ []) (Refused NoLink) []  -- rule 255, by a link that is not declared: 5 before 11
    ∷ row (0x04 ∷ 0x00 ∷ 0xFF ∷ 0x02 ∷ 0x0A ∷ 0x00 ∷ 0x00 ∷ 0x00 ∷ 0x21 ∷ 0x00 ∷ 0x05 ∷ []) (Refused NoPrefix) []  -- length 33
    ∷ row (0x04 ∷ 0x00 ∷ 0xFF ∷ 0x02 ∷ 0x0A ∷ 0x00 ∷ 0x00 ∷ 0x01 ∷ 0x08 ∷ 0x00 ∷ 0x05 ∷ []) (Refused NoPrefix) []  -- 10.0.0.1/8
    ∷ row (0x04 ∷ 0x00 ∷ 0xFF ∷ 0x02 ∷ 0x0A ∷ 0x00 ∷ 0x00 ∷ 0x00 ∷ 0x08 ∷ 0x00 ∷ 0x05 ∷ []) (Changed 1) (1 ∷ 167772160 ∷ 184549376 ∷ 64 ∷ 2 ∷ [])  -- 10.0.0.0/8
    ∷ row (0x04 ∷ 0x00 ∷ 0xFF ∷ 0x04 ∷ 0x0A ∷ 0x00 ∷ 0x00 ∷ 0x00 ∷ 0x08 ∷ 0x00 ∷ 0x05 ∷ []) (Refused RuleLive) []  -- rule 255 again, by a link that is not declared: 9 before 5
    ∷ row (0x04 ∷ 0x00 ∷ 0x00 ∷ 0x01 ∷ 0x0A ∷ 0x00 ∷ 0x00 ∷ 0x01 ∷ 0x20 ∷ 0x00 ∷ 0x05 ∷ []) (Refused Tie) []  -- a tie
    ∷ row (0x04 ∷ 0x00 ∷ 0x00 ∷ 0x01 ∷ 0x0A ∷ 0x00 ∷ 0x00 ∷ 0x01 ∷ 0x20 ∷ 0x00 ∷ 0x06 ∷ []) (Changed 1) (3 ∷ 167772161 ∷ 167772162 ∷ 2 ∷ 1 ∷ [])  -- length 32
    ∷ row (0x04 ∷ 0x00 ∷ 0x01 ∷ 0x01 ∷ 0x0A ∷ 0x00 ∷ 0x00 ∷ 0x00 ∷ 0x08 ∷ 0x00 ∷ 0x04 ∷ []) (Changed 0) []  -- a rule that wins nowhere
    ∷ row (0x04 ∷ 0x00 ∷ 0x02 ∷ 0x00 ∷ 0x0A ∷ 0x00 ∷ 0x00 ∷ 0x00 ∷ 0x08 ∷ 0x00 ∷ 0x05 ∷ []) (Changed 3) (1 ∷ 167772160 ∷ 167772161 ∷ 64 ∷ 0 ∷ 3 ∷ 167772161 ∷ 167772162 ∷ 64 ∷ 0 ∷ 4 ∷ 167772162 ∷ 184549376 ∷ 64 ∷ 0 ∷ [])  -- the same prefix and priority at another node
    ∷ row (0x04 ∷ 0x00 ∷ 0x03 ∷ 0x00 ∷ 0x09 ∷ 0x00 ∷ 0x00 ∷ 0x00 ∷ 0x08 ∷ 0x00 ∷ 0x01 ∷ []) (Changed 1) (5 ∷ 150994944 ∷ 167772160 ∷ 64 ∷ 0 ∷ [])  -- an atom below the others, numbered after them
    ∷ row (0x04 ∷ 0x00 ∷ 0x04 ∷ 0x00 ∷ 0x09 ∷ 0x00 ∷ 0x00 ∷ 0x00 ∷ 0x08 ∷ 0x00 ∷ 0x02 ∷ []) (Changed 1) (5 ∷ 150994944 ∷ 167772160 ∷ 0 ∷ 0 ∷ [])  -- another rule wins by the same link
    ∷ row (0x04 ∷ 0x00 ∷ 0x05 ∷ 0x03 ∷ 0x09 ∷ 0x00 ∷ 0x00 ∷ 0x00 ∷ 0x08 ∷ 0x00 ∷ 0x01 ∷ []) (Changed 1) (5 ∷ 150994944 ∷ 167772160 ∷ 64 ∷ 3 ∷ [])  -- node 0 leads into the circle at node 15
    ∷ row (0x05 ∷ 0x01 ∷ 0x00 ∷ []) (Refused NoRule) []  -- rule 256
    ∷ row (0x05 ∷ 0x00 ∷ 0x06 ∷ []) (Refused RuleNotLive) []  -- a rule that is not live
    ∷ row (0x07 ∷ 0x10 ∷ 0x0A ∷ 0x00 ∷ 0x00 ∷ 0x00 ∷ []) (Refused NoNode) []  -- from no node
    ∷ row (0x07 ∷ 0x00 ∷ 0x0A ∷ 0x00 ∷ 0x00 ∷ 0x01 ∷ []) (Went (Out 1 0)) []  -- by the port
    ∷ row (0x07 ∷ 0x00 ∷ 0x0A ∷ 0x00 ∷ 0x00 ∷ 0x02 ∷ []) (Went (Lost 0 0)) []  -- by the drop
    ∷ row (0x07 ∷ 0x00 ∷ 0xFF ∷ 0xFF ∷ 0xFF ∷ 0xFF ∷ []) (Went (Lost 0 0)) []  -- by no rule
    ∷ row (0x07 ∷ 0x00 ∷ 0x09 ∷ 0x00 ∷ 0x00 ∷ 0x00 ∷ []) (Went Round) []  -- into the circle
    ∷ row (0x06 ∷ []) (Loop 150994944 15) []  -- the lowest address, which has the highest number, and the node on the circle
    ∷ row (0x08 ∷ 0x10 ∷ 0x00 ∷ []) (Refused NoNode) []  -- from no node
    ∷ row (0x08 ∷ 0x00 ∷ 0x10 ∷ []) (Refused NoNode) []  -- to no node
    ∷ row (0x08 ∷ 0x05 ∷ 0x05 ∷ []) (Yes 0) []  -- from a node to itself
    ∷ row (0x08 ∷ 0x00 ∷ 0x0F ∷ []) (Yes 150994944) []  -- into the circle
    ∷ row (0x08 ∷ 0x00 ∷ 0x05 ∷ []) No []  -- to a node that no link ends at
    ∷ row (0x09 ∷ 0x10 ∷ []) (Refused NoNode) []  -- at no node
    ∷ row (0x09 ∷ 0x00 ∷ []) (Tally 1 4278190079 16777216) []  -- lost by the drop or by no rule
    ∷ []

by_places : lines_from step_in list_room (length (bytes_of table)) fresh (bytes_of table) ≡ answers_of table
unfolding bytes_of answers_of table opened
by_places = refl

-- THE TABLE
pub sides : lines_of list_room (bytes_of table) ≡ answers_of table
unfolding lines_of
sides = lines_in list_room (length (bytes_of table)) fresh (bytes_of table) start ∙ by_places

-- the labels that these records leave, the word of each link's first 64 atoms: link 0 has atoms 1, 3, 4 and 5, link 1 atom 3, link 2 atoms 1 and 4, link 3 atom 5
labels_by_places : tabulate 4 0 (λ l. get_or (labels_of (run_from step_in 50 0 fresh (zeroes list_room) (bytes_of table)).left) (8 * l) 0) ≡ 58 ∷ 8 ∷ 18 ∷ 32 ∷ []
unfolding bytes_of table opened overwrite run_from names is_on word_of tabulate labels_of
labels_by_places = refl

pub labels : tabulate 4 0 (λ l. get_or (labels_of (run_from step_of 50 0 fresh (zeroes list_room) (bytes_of table)).left) (8 * l) 0) ≡ 58 ∷ 8 ∷ 18 ∷ 32 ∷ []
labels = ap (λ (x : Ran). tabulate 4 0 (λ l. get_or (labels_of x.left) (8 * l) 0)) (run_in 50 0 fresh (zeroes list_room) (bytes_of table) start) ∙ labels_by_places

-- ---- link 64 passes, link 65 gives 6

-- n records of a link from node 0 to the drop
links : ℕ → List ℕ
links zero = []
links (suc n) = 0x02 ∷ 0x00 ∷ 0x02 ∷ 0x00 ∷ links n

unfoldable pub crowd : List ℕ
unfolding links
crowd = 0x01 ∷ 0x01 ∷ links 65

crowd_by_places : lines_from step_in list_room (length crowd) fresh crowd ≡ replicate 65 (record { answer = Ok; written = [] }) ++ (record { answer = Refused LinksFull; written = [] } ∷ [])
unfolding crowd opened
crowd_by_places = refl

pub full_links : lines_of list_room crowd ≡ replicate 65 (record { answer = Ok; written = [] }) ++ (record { answer = Refused LinksFull; written = [] } ∷ [])
unfolding lines_of
full_links = lines_in list_room (length crowd) fresh crowd start ∙ crowd_by_places

-- ---- where a step stays

-- the answer of a fresh box with room for so many words
abbrev answer : ℕ → List ℕ → Answer
answer room s = (step_of fresh room s).answer

pub record Stays : Type 0 where
  pub empty : answer 2560 [] ≡ End
  pub short : answer 2559 [] ≡ Refused ShortList
  pub kind_zero : answer 2560 (0x00 ∷ []) ≡ Refused UnknownKind
  pub kind_ten : answer 2560 (0x0A ∷ []) ≡ Refused UnknownKind
  pub cut_off : answer 2560 (0x01 ∷ []) ≡ Refused CutOff
  pub cut_off_first : answer 2560 (0x08 ∷ 0x00 ∷ []) ≡ Refused CutOff

pub stays : Stays
unfolding opened step_of
stays = record { empty = refl; short = refl; kind_zero = refl; kind_ten = refl; cut_off = refl; cut_off_first = refl }
