-- The records: one byte of kind, then a body whose length the kind fixes, with its fields in order; their sorts; and their order.
-- s are the bytes from the record's first on; a reader's place is a place of the whole stream. Assumes nothing: these are definitions.
use Rattle.std.specs.Prelude.{List, [], ◌∷◌, Bool, true, false, ◌&&◌, not, ℕ, zero, suc, ◌+◌, ◌*◌, ◌%◌, leb, ltb, eqb, length, get_or, drop}
use Rattle.meaning.specs.Search.{pick}
use Rattle.std.specs.Prelude.{Result, Ok, Err, Option, Some, None}
use Rattle.meaning.specs.declared.Refusal.{Refusal}
use Rattle.meaning.specs.declared.Refusal.TheVariants.{UnknownKind, CutOff}
use Rattle.meaning.specs.declared.hall.Phase.{Phase}
use Rattle.meaning.specs.declared.hall.Phase.TheVariants.{Bare, Open, Closed}
use Rattle.meaning.specs.declared.Placed.{Placed}
use Rattle.meaning.specs.declared.Record.{Record}
use Rattle.meaning.specs.declared.Record.TheVariants.{Hall, Link, Close, Insert, Remove, Loop, Fate, Reach, Tally}

-- the number in n bytes from byte i on, the highest byte first
unfoldable pub number : List ℕ → ℕ → ℕ → ℕ
number s i zero = 0
number s i (suc n) = number s i n * 256 + get_or s (i + n) 0 % 256

unfoldable pub is_kind : ℕ → Bool
is_kind k = ltb 0 k && leb k 9

-- how many bytes the body of kind k has
unfoldable pub body_of : ℕ → ℕ
body_of k = get_or (0 ∷ 1 ∷ 3 ∷ 0 ∷ 10 ∷ 2 ∷ 0 ∷ 5 ∷ 2 ∷ 1 ∷ []) k 0

-- the record that s begins with, by its kind. Kinds 0 and above 9 are turned away before any record is looked for (read_of), so what stands for them is never read
unfoldable pub record_of : List ℕ → Record
record_of s =
    get_or
    (Close
    ∷ Hall (number s 1 1)
    ∷ Link (number s 1 1) (number s 2 1) (number s 3 1)
    ∷ Close
    ∷ Insert (number s 1 2) (number s 3 1) (number s 4 4) (number s 8 1) (number s 9 2)
    ∷ Remove (number s 1 2)
    ∷ Loop
    ∷ Fate (number s 1 1) (number s 2 4)
    ∷ Reach (number s 1 1) (number s 2 1)
    ∷ Tally (number s 1 1)
    ∷ [])
    (get_or s 0 0)
    Close

-- what was read: a record and its length; nothing, where no byte is left; or what is refused
abbrev pub Read : Type 0
Read = Result (Option (Record × ℕ)) Refusal

abbrev pub no_more : Read
no_more = Ok None

abbrev pub got : Record → ℕ → Read
got r n = Ok (Some (r, n))

-- what s begins with: nothing, a kind that is unknown or a body that is cut off, or a record and its length
unfoldable pub read_of : List ℕ → Read
read_of s =
    pick (eqb (length s) 0) no_more
    (pick (not (is_kind (get_or s 0 0))) (Err UnknownKind)
    (pick (ltb (length s) (1 + body_of (get_or s 0 0))) (Err CutOff) (got (record_of s) (1 + body_of (get_or s 0 0)))))

-- the place after what was read at a place: the record's end; at "end" and at a refusal the place stays
unfoldable pub place_after : ℕ → Read → ℕ
place_after at (Ok None) = at
place_after at (Err k) = at
place_after at (Ok (Some (r, n))) = at + n

-- what is read at a place of a stream: what the rest of the stream, from that place on, begins with; and the place after it
unfoldable pub placed_at : List ℕ → ℕ → Placed
placed_at stream at = record { read = read_of (drop at stream); place = place_after at (read_of (drop at stream)) }

-- ---- the sorts: what sets the hall up, what updates the rules, what asks

pub data SetUp : Type 0 where
  hall : ℕ → SetUp
  link : ℕ → ℕ → ℕ → SetUp
  close : SetUp

pub data Update : Type 0 where
  insert : ℕ → ℕ → ℕ → ℕ → ℕ → Update
  remove : ℕ → Update

pub data Question : Type 0 where
  loop : Question
  fate reach : ℕ → ℕ → Question
  tally : ℕ → Question

pub data Sort : Type 0 where
  set_up : SetUp → Sort
  update : Update → Sort
  question : Question → Sort

unfoldable pub sort_of : Record → Sort
sort_of (Hall n) = set_up (hall n)
sort_of (Link s c e) = set_up (link s c e)
sort_of Close = set_up close
sort_of (Insert r l p n t) = update (insert r l p n t)
sort_of (Remove r) = update (remove r)
sort_of Loop = question loop
sort_of (Fate v a) = question (fate v a)
sort_of (Reach v w) = question (reach v w)
sort_of (Tally v) = question (tally v)

-- the phase that a record belongs in: one hall, then links, then one close, then every other sort
unfoldable pub set_up_phase : SetUp → Phase
set_up_phase (hall n) = Bare
set_up_phase (link s c e) = Open
set_up_phase close = Open

unfoldable pub phase_of : Sort → Phase
phase_of (set_up u) = set_up_phase u
phase_of (update u) = Closed
phase_of (question q) = Closed

-- the records that ask and change nothing
unfoldable pub is_question : Sort → Bool
is_question (set_up u) = false
is_question (update u) = false
is_question (question q) = true
