-- A record's bytes: numbers of one, two and four bytes, and each record by its kind; and what is read at a place of a stream. For code that reads. Assumes nothing.
use mathlib.Core.Path.{◌≡◌, refl, sym, ap, ◌∙◌}
use mathlib.Core.Bool.{Bool, true, false, not}
use mathlib.Core.List.{List}
use Prim.Native.Nat.{ℕ, ◌+◌, ◌*◌, ◌%◌, ◌<◌, ◌≤◌}
use native.Mathlib.Nat.{add-zero}
use native.Mathlib.Omega.{arith}
use lib.Dec.{eqb, ltb}
use lib.ListN.{length, get_or, drop, length-drop}
use borrow.Author.Tests.{eq-eqb, ne_eqb, lt-ltb, le-ltb, ltb-false}
use Rattle.std.specs.Prelude.{Err}
use Rattle.meaning.specs.declared.Refusal.TheVariants.{UnknownKind, CutOff}
use Rattle.meaning.specs.declared.Placed.{Placed}
use Rattle.meaning.specs.declared.Record.{Record}
use Rattle.meaning.specs.declared.Record.TheVariants.{Hall as hall, Link as link, Close as close, Insert as insert, Remove as remove, Loop as loop, Fate as fate, Reach as reach, Tally as tally}
use Rattle.meaning.specs.Search.{pick}
use Rattle.meaning.specs.Records.{number, is_kind, body_of, record_of, Read, no_more, got, read_of, place_after, placed_at}
use Rattle.meaning.proofs.base.Order.{clash}
use Rattle.meaning.proofs.records.Begins.{got_once}

module _ (s : List ℕ) (i : ℕ) where
  first : get_or s (i + 0) 0 % 256 ≡ get_or s i 0 % 256
  first = ap (λ (x : ℕ). get_or s x 0 % 256) (add-zero i)

  number_one : number s i 1 ≡ get_or s i 0 % 256
  unfolding number
  number_one = omega (arith, first)

  pub number_two : number s i 2 ≡ get_or s i 0 % 256 * 256 + get_or s (i + 1) 0 % 256
  unfolding number
  number_two = omega (arith, first)

  pub byte : get_or s i 0 < 256 → get_or s i 0 ≡ number s i 1
  byte h = let e : get_or s i 0 % 256 ≡ get_or s i 0 = omega arith in sym e ∙ sym number_one

all : (s : List ℕ) (i : ℕ)
    → number s i 4 ≡ ((get_or s i 0 % 256 * 256 + get_or s (i + 1) 0 % 256) * 256 + get_or s (i + 2) 0 % 256) * 256 + get_or s (i + 3) 0 % 256
unfolding number
all s i = ap (λ (x : ℕ). (x * 256 + get_or s (i + 2) 0 % 256) * 256 + get_or s (i + 3) 0 % 256) (number_two s i)

pub number_four : (s : List ℕ) (i : ℕ) → number s i 2 * 65536 + number s (i + 2) 2 ≡ number s i 4
number_four s i =
    let e : get_or s (i + 2 + 1) 0 ≡ get_or s (i + 3) 0 = (let f : i + 2 + 1 ≡ i + 3 = omega arith in ap (λ (x : ℕ). get_or s x 0) f) in
    omega (arith, number_two s i, number_two s (i + 2), all s i, e)

-- the record of each kind, by its fields
module _ (s : List ℕ) where
  pub is_hall : get_or s 0 0 ≡ 1 → hall (number s 1 1) ≡ record_of s
  unfolding record_of
  is_hall e = rw e

  pub is_link : get_or s 0 0 ≡ 2 → link (number s 1 1) (number s 2 1) (number s 3 1) ≡ record_of s
  unfolding record_of
  is_link e = rw e

  pub is_close : get_or s 0 0 ≡ 3 → close ≡ record_of s
  unfolding record_of
  is_close e = rw e

  pub is_insert : get_or s 0 0 ≡ 4 → insert (number s 1 2) (number s 3 1) (number s 4 4) (number s 8 1) (number s 9 2) ≡ record_of s
  unfolding record_of
  is_insert e = rw e

  pub is_remove : get_or s 0 0 ≡ 5 → remove (number s 1 2) ≡ record_of s
  unfolding record_of
  is_remove e = rw e

  pub is_loop : get_or s 0 0 ≡ 6 → loop ≡ record_of s
  unfolding record_of
  is_loop e = rw e

  pub is_fate : get_or s 0 0 ≡ 7 → fate (number s 1 1) (number s 2 4) ≡ record_of s
  unfolding record_of
  is_fate e = rw e

  pub is_reach : get_or s 0 0 ≡ 8 → reach (number s 1 1) (number s 2 1) ≡ record_of s
  unfolding record_of
  is_reach e = rw e

  pub is_tally : get_or s 0 0 ≡ 9 → tally (number s 1 1) ≡ record_of s
  unfolding record_of
  is_tally e = rw e

  -- what the bytes begin with, by the tests on the way
  pub read_end : length s ≡ 0 → no_more ≡ read_of s
  unfolding read_of
  read_end e = rw (eq-eqb (length s) 0 e)

  module _ (some : length s ≡ 0 → ⊥) where
    pub read_unknown : is_kind (get_or s 0 0) ≡ false → Err UnknownKind ≡ read_of s
    unfolding read_of
    read_unknown e = rw (ne_eqb (length s) 0 some, e)

    pub read_short : is_kind (get_or s 0 0) ≡ true → length s < 1 + body_of (get_or s 0 0) → Err CutOff ≡ read_of s
    unfolding read_of
    read_short e h = rw (ne_eqb (length s) 0 some, e, lt-ltb (length s) (1 + body_of (get_or s 0 0)) h)

    pub read_got : is_kind (get_or s 0 0) ≡ true → 1 + body_of (get_or s 0 0) ≤ length s → got (record_of s) (1 + body_of (get_or s 0 0)) ≡ read_of s
    unfolding read_of
    read_got e h = rw (ne_eqb (length s) 0 some, e, le-ltb (length s) (1 + body_of (get_or s 0 0)) h)

-- past the end of a stream no byte is left
pub read_past : (s : List ℕ) (at : ℕ) → length s < at → no_more ≡ read_of (drop at s)
read_past s at h = read_end (drop at s) (rw length-drop (omega arith))

-- a record that is read lies within the bytes
pub read_within : (s : List ℕ) (r : Record) (n : ℕ) → read_of s ≡ got r n → n ≤ length s
unfolding read_of
read_within s r n e = go (eqb (length s) 0) (not (is_kind (get_or s 0 0))) (ltb (length s) (1 + body_of (get_or s 0 0))) refl e
  where
    go : (a b c : Bool) → ltb (length s) (1 + body_of (get_or s 0 0)) ≡ c
        → pick a no_more (pick b (Err UnknownKind) (pick c (Err CutOff) (got (record_of s) (1 + body_of (get_or s 0 0))))) ≡ got r n → n ≤ length s
    go true b c f e = clash cc
    go false true c f e = clash cc
    go false false true f e = clash cc
    go false false false f e = let z : 1 + body_of (get_or s 0 0) ≡ n = (got_once e).1 in omega (arith, ltb-false (length s) (1 + body_of (get_or s 0 0)) f)

-- what is read at a place, from what was read and the place after it
pub placed : (s : List ℕ) (at : ℕ) (x : Read) (p : ℕ) → x ≡ read_of (drop at s) → p ≡ place_after at x → ◌≡◌ {A = Placed} (record { read = x; place = p }) (placed_at s at)
unfolding placed_at
placed s at x p e f = let g : p ≡ place_after at (read_of (drop at s)) = f ∙ ap (place_after at) e in λ i. record { read = e i; place = g i }
