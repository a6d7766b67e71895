-- A rule's word, over the width of its addresses, and a link's word: each part is read back from it. Assumes nothing.
use mathlib.Core.Path.{◌≡◌, refl, sym, ap, ◌∙◌}
use mathlib.Core.Bool.{true, false, not}
use Prim.Native.Nat.{ℕ, ◌+◌, ◌-◌, ◌*◌, ◌/◌, ◌%◌, ◌^◌, ◌≤◌, ◌<◌}
use native.Mathlib.Nat.{zero-div, div-add-mod', mul-le-mul_right, lt_of_mul-lt-mul_right, suc-mul}
use native.Mathlib.Omega.{arith}
use lib.Arith.{digits_div, digits_mod}
use lib.Pow.{pow-add}
use borrow.Author.Tests.{ne_eqb, eqb-true, not-false}
use Rattle.meaning.specs.declared.hall.End.{End}
use Rattle.meaning.specs.declared.hall.End.TheVariants.{Node, Port, Drop}
use Rattle.meaning.specs.Rule.{span, rule_word, live, link_of, free_of, length_of, rank, lower, upper}
use Rattle.meaning.specs.Hall.{end_number, link_word}

-- ---- a rule's word: its parts come back from it

-- link, prefix, length and priority have room in a word over addresses of a width
pub record RuleFits (width l p n t : ℕ) : Type 0 where
  pub wide : 0 < width
  pub link : l < 64
  pub prefix : p < 2 ^ width
  pub long : n ≤ width
  pub priority : t < 2 ^ 16

module _ {width l p n t : ℕ} (R : RuleFits width l p n t) where
  abbrev w : ℕ
  w = rule_word width l p n t

  -- a priority with the one above it, and a length's free bits over that
  abbrev marked : ℕ
  marked = 2 ^ 16 + t

  abbrev free : ℕ
  free = marked * (2 * width) + (width - n)

  above : w / 2 ^ width ≡ free * 64 + l
  unfolding rule_word
  above = digits_div (free * 64 + l) R.prefix

  pub link_of_lem : link_of width w ≡ l
  unfolding link_of
  link_of_lem = ap (λ (x : ℕ). x % 64) above ∙ digits_mod free R.link

  behind : w / 2 ^ width / 64 ≡ free
  behind = ap (λ (x : ℕ). x / 64) above ∙ digits_div free R.link

  room : width - n < 2 * width
  room = omega (arith, R.wide)

  free_of_lem : free_of width w ≡ width - n
  unfolding free_of
  free_of_lem = rw behind (digits_mod marked room)

  pub length_of_lem : length_of width w ≡ n
  unfolding length_of
  length_of_lem = rw free_of_lem (omega (arith, R.long))

  -- above all else stands the priority under a one
  pub marked_of : w / 2 ^ width / 64 / (2 * width) ≡ 2 ^ 16 + t
  marked_of = rw behind (digits_div marked room)

  pub rank_of : rank width w ≡ t
  unfolding rank
  rank_of = ap (λ (x : ℕ). x % 2 ^ 16) marked_of ∙ omega (arith, R.priority)

  pub lower_of : lower width w ≡ p
  unfolding lower rule_word
  lower_of = digits_mod (free * 64 + l) R.prefix

  pub upper_of : upper width w ≡ p + span width n
  unfolding upper
  upper_of = rw (free_of_lem, lower_of)

  -- so that a live rule's word is never 0
  pub live_of : live w ≡ true
  unfolding live
  live_of = ap not (ne_eqb w 0 (λ e. omega (arith, marked_of, nothing e)))
    where
      nothing : w ≡ 0 → w / 2 ^ width / 64 / (2 * width) ≡ 0
      nothing e = rw (e, zero-div (2 ^ width), zero-div (2 * width))

-- an aligned prefix ends within the range
pub within_top : (width p n : ℕ) → p < 2 ^ width → n ≤ width → p % span width n ≡ 0 → p + span width n ≤ 2 ^ width
within_top width p n hp hn e =
    let d = span width n in
    let q = p / d in
    let whole : 2 ^ width ≡ 2 ^ n * d = (let s : n + (width - n) ≡ width = omega arith in sym (ap (λ (x : ℕ). 2 ^ x) s) ∙ pow-add 2 n (width - n)) in
    let same : q * d ≡ p = omega (arith, div-add-mod' p d) in
    let less : q < 2 ^ n = lt_of_mul-lt-mul_right d (omega arith) in
    omega (arith, mul-le-mul_right d less, suc-mul q d)

-- ---- a record's fields

-- the word of a rule that is not live
pub free_zero : (w : ℕ) → live w ≡ false → w ≡ 0
unfolding live
free_zero w e = eqb-true w 0 (not-false _ e)

-- ---- a link's word: its source and its end come back from it

-- the number in an end is that of a byte
pub number_in : End → ℕ
number_in (Node v) = v
number_in (Port p) = p
number_in Drop = 0

-- and its code that of a link record: 0 node, 1 port, 2 drop
pub code_in : End → ℕ
code_in (Node v) = 0
code_in (Port p) = 1
code_in Drop = 2

-- an end's number is what a link record says of it
pub end_is : (e : End) → end_number e ≡ code_in e * 256 + number_in e
unfolding end_number number_in code_in
end_is (Node v) = omega arith
end_is (Port p) = omega arith
end_is Drop = omega arith

module _ (source : ℕ) (e : End) (byte : number_in e < 256) where
  few : end_number e < 1024
  unfolding end_number number_in
  few = go e byte
    where
      go : (e : End) → number_in e < 256 → end_number e < 1024
      go (Node v) h = omega arith
      go (Port p) h = omega arith
      go Drop h = omega arith

  pub source_again : link_word source (end_number e) / 1024 ≡ source
  unfolding link_word
  source_again = omega (arith, few)

  pub end_again : link_word source (end_number e) % 1024 ≡ end_number e
  unfolding link_word
  end_again = omega (arith, few)

-- ends with the same number are the same end
pub same_end : (e f : End) → number_in e < 256 → number_in f < 256 → end_number e ≡ end_number f → e ≡ f
unfolding end_number number_in
same_end (Node v) (Node w) h k q = ap Node q
same_end (Node v) (Port p) h k q = absurd (omega arith)
same_end (Node v) Drop h k q = absurd (omega arith)
same_end (Port p) (Node w) h k q = absurd (omega arith)
same_end (Port p) (Port r) h k q = ap Port (omega arith)
same_end (Port p) Drop h k q = absurd (omega arith)
same_end Drop (Node w) h k q = absurd (omega arith)
same_end Drop (Port r) h k q = absurd (omega arith)
same_end Drop Drop h k q = refl
