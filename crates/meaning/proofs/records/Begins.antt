-- What bytes begin with, in its ways: no byte, a kind that is unknown or a body that is cut off, or a record. Assumes nothing.
use mathlib.Core.Path.{◌≡◌, refl, ap}
use mathlib.Core.Logic.{◌⊎◌, inl, inr}
use mathlib.Core.Bool.{Bool, true, false, not}
use mathlib.Core.List.{List}
use Prim.Native.Nat.{ℕ, ◌+◌, ◌≤◌}
use lib.Dec.{ltb, eqb}
use lib.ListN.{length, get_or}
use borrow.Author.Tests.{eqb-true, ltb-false}
use Rattle.std.specs.Prelude.{Ok, Err, Some, None}
use Rattle.meaning.specs.declared.Refusal.{Refusal}
use Rattle.meaning.specs.declared.Refusal.TheVariants.{UnknownKind, CutOff}
use Rattle.meaning.specs.declared.Record.{Record}
use Rattle.meaning.specs.declared.Record.TheVariants.{Close}
use Rattle.meaning.specs.Search.{pick}
use Rattle.meaning.specs.Records.{is_kind, body_of, record_of, Read, no_more, got, read_of}

-- how many bytes the record has that s begins with
abbrev pub bytes_of : List ℕ → ℕ
bytes_of s = 1 + body_of (get_or s 0 0)

-- a record that was read, and its length, are determined by what was read
unfoldable read_pair : Read → Record × ℕ
read_pair (Ok None) = (Close, 0)
read_pair (Err k) = (Close, 0)
read_pair (Ok (Some x)) = x

pub got_once : {r r' : Record} {n n' : ℕ} → got r n ≡ got r' n' → (r ≡ r') × (n ≡ n')
unfolding read_pair
got_once e = (ap (λ (x : Read). (read_pair x).0) e, ap (λ (x : Read). (read_pair x).1) e)

pub data Begins (s : List ℕ) : Read → Type 0 where
  nothing : length s ≡ 0 → Begins s no_more
  unread : (k : Refusal) → (k ≡ UnknownKind) ⊎ (k ≡ CutOff) → Begins s (Err k)
  whole : bytes_of s ≤ length s → Begins s (got (record_of s) (bytes_of s))

-- THE LAW: bytes begin in one of these ways
pub begins : (s : List ℕ) → Begins s (read_of s)
unfolding read_of
begins s = go (eqb (length s) 0) refl (not (is_kind (get_or s 0 0))) (ltb (length s) (bytes_of s)) refl
  where
    go : (a : Bool) → eqb (length s) 0 ≡ a → (b c : Bool) → ltb (length s) (bytes_of s) ≡ c
        → Begins s (pick a no_more (pick b (Err UnknownKind) (pick c (Err CutOff) (got (record_of s) (bytes_of s)))))
    go true e b c f = nothing (eqb-true (length s) 0 e)
    go false e true c f = unread UnknownKind (inl refl)
    go false e false true f = unread CutOff (inr refl)
    go false e false false f = whole (ltb-false (length s) (bytes_of s) f)
