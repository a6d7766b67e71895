-- `records::record::read_record` meets its contract: each arm's kind and length are a case of `read_of`, and its fields are those of `record_of`.
-- Of a body that is cut off the search finds it by `CutOff`. Assumes nothing.
use Prim.Native.Nat.{ℕ, suc, ◌+◌, ◌*◌, ◌<◌, ◌≤◌}
use Rattle.meaning.proofs.records.Reading.{read_end, read_unknown, read_got, byte, number_two, number_four, is_hall, is_link, is_close, is_insert, is_remove, is_loop, is_fate, is_reach, is_tally}
use Rattle.meaning.proofs.base.Search.{and_both}
use Rattle.meaning.specs.Answers.{said_read}
use Rattle.meaning.specs.Records.{got as read, number, is_kind, body_of, record_of, read_of}
use Rattle.std.specs.Prelude.{Err}
use Rattle.meaning.specs.declared.Refusal.TheVariants.{UnknownKind}
use Rattle.meaning.specs.declared.Record.{Record}
use borrow.Author.Tests.{ltb-true, leb-true}
use lib.Dec.{ltb, leb}
use lib.ListN.{length, get_or}
use mathlib.Core.Bool.{Bool, true, false}
use mathlib.Core.List.{List, ◌∷◌}
use mathlib.Core.Path.{◌≡◌, refl, sym, ap, ap₂, ◌∙◌}
use mir.Syntax.{w8}
use mir.Val.{Fits}
use native.Mathlib.Omega.{arith}
use Rattle.records.proofs.record.read_record.Goals as goal

-- the bytes are a kind k and a body
module _ (s body : List ℕ) (k : ℕ) (e : (s ≡ k ∷ body) × (length body + 1 ≡ length s)) where
  -- which is the first byte
  kind : get_or s 0 0 ≡ k
  kind = ap (λ (x : List ℕ). get_or x 0 0) e.0

  some : length s ≡ 0 → ⊥
  some z = omega (arith, e.1)

  -- a record of kind j has n bytes, and they are there
  got : (j n : ℕ) (r : Record) → k ≡ j → is_kind j ≡ true → 1 + body_of j ≡ n → n ≤ 1 + length body → (get_or s 0 0 ≡ j → r ≡ record_of s) → said_read (read r n) ≡ said_read (read_of s)
  got j n r f is size h same =
      let here : get_or s 0 0 ≡ j = kind ∙ f in
      let long : 1 + body_of (get_or s 0 0) ≡ n = ap (λ (x : ℕ). 1 + body_of x) here ∙ size in
      ap said_read (ap₂ read (same here) (sym long) ∙ read_got s some (ap is_kind here ∙ is) (omega (arith, e.1)))

  -- or k is no kind
  unknown : ((0 < k) × (k ≤ 9) → ⊥) → said_read (Err UnknownKind) ≡ said_read (read_of s)
  unfolding is_kind
  unknown n = go (is_kind k) refl
    where
      go : (b : Bool) → is_kind k ≡ b → said_read (Err UnknownKind) ≡ said_read (read_of s)
      go true f = let p = and_both (ltb 0 k) (leb k 9) f in absurd (n (ltb-true 0 k p.0, leb-true k 9 p.1))
      go false f = ap said_read (read_unknown s some (ap is_kind kind ∙ f))

  -- the numbers in one, two and four bytes of the body
  module _ (bytes : (i : ℕ) → Fits w8 (get_or s i 0)) where
    at : (i : ℕ) → get_or body i 0 ≡ get_or s (suc i) 0
    at i = ap (λ (x : List ℕ). get_or x (suc i) 0) (sym e.0)

    after : (i n : ℕ) → get_or body (i + n) 0 ≡ get_or s (suc i + n) 0
    after i n = let f : suc (i + n) ≡ suc i + n = omega arith in at (i + n) ∙ ap (λ (x : ℕ). get_or s x 0) f

    one : (i : ℕ) → get_or body i 0 ≡ number s (suc i) 1
    one i = at i ∙ byte s (suc i) (bytes (suc i)).fits

    two : (i x : ℕ) → x ≡ get_or body i 0 * 256 + get_or body (i + 1) 0 → x ≡ number s (suc i) 2
    two i x f = omega (arith, f, at i, after i 1, (bytes (suc i)).fits, (bytes (suc i + 1)).fits, number_two s (suc i))

    four : (i x : ℕ) → x ≡ get_or body i 0 * 16777216 + get_or body (i + 1) 0 * 65536 + get_or body (i + 2) 0 * 256 + get_or body (i + 3) 0 → x ≡ number s (suc i) 4
    four i x f =
        let g : suc i + 3 ≡ suc i + 2 + 1 = omega arith in
        let last = after i 3 ∙ ap (λ (x : ℕ). get_or s x 0) g in
        let byte_at = λ (n : ℕ). (bytes n).fits in
        omega (arith, f, at i, after i 1, after i 2, last, byte_at (suc i), byte_at (suc i + 1), byte_at (suc i + 2), byte_at (suc i + 2 + 1), number_two s (suc i), number_two s (suc i + 2), number_four s (suc i))

pub returns-in_default : goal.returns-in_default
returns-in_default c = ap said_read (read_end _ c.in_default.ensures.cases)

pub returns-in-1-len1-up : goal.returns-in-1-len1-up
unfolding is_kind body_of
returns-in-1-len1-up c =
    let e = c.in-Some.ensures.cases in let b = c.type_inv.s in
    got _ _ _ e 1 2 _ c.in-1-len1-up.is-0 refl refl (omega arith) (λ f. cc (one _ _ _ e b 0, is_hall _ f))

pub returns-in-2-len3-up : goal.returns-in-2-len3-up
unfolding is_kind body_of
returns-in-2-len3-up c =
    let e = c.in-Some.ensures.cases in let b = c.type_inv.s in
    got _ _ _ e 2 4 _ c.in-2-len3-up.is-0 refl refl (omega arith) (λ f. cc (one _ _ _ e b 0, one _ _ _ e b 1, one _ _ _ e b 2, is_link _ f))

pub returns-in-3-default : goal.returns-in-3-default
unfolding is_kind body_of
returns-in-3-default c =
    let e = c.in-Some.ensures.cases in
    got _ _ _ e 3 1 _ c.in-3-default.is-0 refl refl (omega arith) (is_close _)

pub returns-in-4-len10-up : goal.returns-in-4-len10-up
unfolding is_kind body_of
returns-in-4-len10-up c =
    let e = c.in-Some.ensures.cases in let b = c.type_inv.s in
    got _ _ _ e 4 11 _ c.in-4-len10-up.is-0 refl refl (omega arith) (λ f. cc (two _ _ _ e b 0 _ c.from_be_bytes-rule.ensures, one _ _ _ e b 2, four _ _ _ e b 3 _ c.from_be_bytes-prefix.ensures, one _ _ _ e b 7, two _ _ _ e b 8 _ c.from_be_bytes-priority.ensures, is_insert _ f))

pub returns-in-5-len2-up : goal.returns-in-5-len2-up
unfolding is_kind body_of
returns-in-5-len2-up c =
    let e = c.in-Some.ensures.cases in let b = c.type_inv.s in
    got _ _ _ e 5 3 _ c.in-5-len2-up.is-0 refl refl (omega arith) (λ f. cc (two _ _ _ e b 0 _ c.from_be_bytes.ensures, is_remove _ f))

pub returns-in-6-default : goal.returns-in-6-default
unfolding is_kind body_of
returns-in-6-default c =
    let e = c.in-Some.ensures.cases in
    got _ _ _ e 6 1 _ c.in-6-default.is-0 refl refl (omega arith) (is_loop _)

pub returns-in-7-len5-up : goal.returns-in-7-len5-up
unfolding is_kind body_of
returns-in-7-len5-up c =
    let e = c.in-Some.ensures.cases in let b = c.type_inv.s in
    got _ _ _ e 7 6 _ c.in-7-len5-up.is-0 refl refl (omega arith) (λ f. cc (one _ _ _ e b 0, four _ _ _ e b 1 _ c.from_be_bytes-address.ensures, is_fate _ f))

pub returns-in-8-len2-up : goal.returns-in-8-len2-up
unfolding is_kind body_of
returns-in-8-len2-up c =
    let e = c.in-Some.ensures.cases in let b = c.type_inv.s in
    got _ _ _ e 8 3 _ c.in-8-len2-up.is-0 refl refl (omega arith) (λ f. cc (one _ _ _ e b 0, one _ _ _ e b 1, is_reach _ f))

pub returns-in-9-len1-up : goal.returns-in-9-len1-up
unfolding is_kind body_of
returns-in-9-len1-up c =
    let e = c.in-Some.ensures.cases in let b = c.type_inv.s in
    got _ _ _ e 9 2 _ c.in-9-len1-up.is-0 refl refl (omega arith) (λ f. cc (one _ _ _ e b 0, is_tally _ f))

pub returns-in-0-default : goal.returns-in-0-default
returns-in-0-default c = unknown _ _ _ c.in-Some.ensures.cases (λ p. grind arith)

pub returns-in-0-default-2 : goal.returns-in-0-default-2
returns-in-0-default-2 c = unknown _ _ _ c.in-Some.ensures.cases (λ p. grind arith)
