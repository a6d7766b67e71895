-- `labels::lowest_on` meets its contract: the lowest one of the first word that is not 0 is the lowest-numbered atom. Assumes nothing.
use Prim.Native.Nat.{ℕ, ◌+◌, ◌-◌, ◌*◌, ◌/◌, ◌%◌, ◌^◌, ◌<◌, ◌≤◌}
use Rattle.lent.proofs.LabelWords.{none_below, there}
use Rattle.meaning.proofs.base.Search.{lowest_off, lowest_first}
use Rattle.meaning.specs.Labels.{on, lowest_on}
use Rattle.meaning.specs.Search.{found, lowest_below}
use Rattle.std.proofs.Common.{Some, None}
use Rattle.std.specs.List.{AllWithin, HoldsAt}
use Rattle.std.proofs.lemmas.Iterator.{IsFirst-from_position, YieldsList-from_slice}
use Rattle.std.proofs.lemmas.List.{get_or-drop, get_or-take, length-take-le}
use Rattle.std.proofs.lemmas.Nat.Bits.{bit_at-trailing_zeros}
use borrow.Author.Tests.{lt-ltb, le-ltb, tests}
use borrow.Author.Rules.{rules}
use lib.Count.{count_trailing_zeros}
use lib.Dec.{eqb}
use lib.ListN.{length, get_or, take, drop, length-drop}
use mathlib.Core.Bool.{false}
use mathlib.Core.List.{List}
use mathlib.Core.Option.{none, some}
use mathlib.Core.Path.{◌≡◌, sym, ap, ◌∙◌}
use mir.Syntax.{w64}
use native.Mathlib.Nat.{zero-div}
use native.Mathlib.Omega.{arith}
use Rattle.labels.proofs.lowest_on.Goals as goal

module _ (label : List ℕ) (l : ℕ) (size : 8 * l + 8 ≤ length label) where
  -- the words of link l
  abbrev words : List ℕ
  words = take 8 (drop (8 * l) label)

  eight : length words ≡ 8
  eight = length-take-le 8 (drop (8 * l) label) (rw length-drop (omega arith))

  word : (i : ℕ) → i < 8 → get_or words i 0 ≡ get_or label (8 * l + i) 0
  word i h = get_or-take 8 (drop (8 * l) label) i 0 h ∙ get_or-drop (8 * l) label i 0

  -- where the first i words are 0, no atom of theirs is on the link
  off : (i : ℕ) → i ≤ 8 → AllWithin (λ w. w ≡ 0) words 0 i → (j : ℕ) → j < 64 * i → on label l j ≡ false
  off i h z j lt =
      let e : get_or label (8 * l + j / 64) 0 ≡ 0 = sym (word (j / 64) (omega arith)) ∙ z (j / 64) 0 (omega arith) (omega arith) in
      ap (λ (w : ℕ). eqb (w / 2 ^ (j % 64) % 2) 1) e ∙ ap (λ (w : ℕ). eqb (w % 2) 1) (zero-div (2 ^ (j % 64)))

  -- the lowest atom is the lowest one of the first word that is not 0
  first : (i : ℕ) → get_or label (8 * l + i) 0 < 2 ^ 64 → (i < length words) × HoldsAt (λ w. 0 < w) words i × AllWithin (λ w. w ≡ 0) words 0 i
      → some (64 * i + count_trailing_zeros 64 (get_or words i 0)) ≡ lowest_below 512 (on label l)
  first i fits p =
      let h : i < 8 = omega (arith, eight) in
      let w = word i h in
      let low = bit_at-trailing_zeros w64 (get_or label (8 * l + i) 0) (omega (arith, p.1 0)) fits in
      rw w (sym (lowest_first _ 512 _ (omega (arith, low.0)) (there label l i low.0) (none_below label l i (off i (omega arith) p.2))))

  nothing : AllWithin (λ w. w ≡ 0) words 0 (length words) → none ≡ lowest_below 512 (on label l)
  nothing z = sym (lowest_off _ 512 (off 8 (omega arith) (rw eight at z)))

pub returns-then-link-ge64 : goal.returns-then-link-ge64
unfolding found lowest_on
returns-then-link-ge64 c = rw (le-ltb _ _ c.if-link-ge64.true)

pub returns : goal.returns
unfolding found lowest_on
returns c =
    let a = c.args in
    let e : 8 * a.link + 8 - 8 * a.link ≡ 8 = omega arith in
    let rest = c.iter.ensures.rest ∙ ap (λ (n : ℕ). take n (drop (8 * a.link) a.label.now)) e in
    rw (e, lt-ltb _ _ c.if-link-ge64.false)
    (first a.label.now a.link (omega arith) c.in-Some.i (c.fits-label _)
    (IsFirst-from_position _ _ (Some c.in-Some.i) (λ w. 0 < w) (λ w. w ≡ 0) c.in-Some.ensures.ran (YieldsList-from_slice _ rest) (λ x q k. search (rules, tests)) (λ x q k. search (rules, tests))))

pub returns-in_default : goal.returns-in_default
unfolding found lowest_on
returns-in_default c =
    let a = c.args in
    let e : 8 * a.link + 8 - 8 * a.link ≡ 8 = omega arith in
    let rest = c.iter.ensures.rest ∙ ap (λ (n : ℕ). take n (drop (8 * a.link) a.label.now)) e in
    rw (lt-ltb _ _ c.if-link-ge64.false)
    (nothing a.label.now a.link (omega arith)
    (IsFirst-from_position _ _ None (λ w. 0 < w) (λ w. w ≡ 0) c.in_default.ensures.ran (YieldsList-from_slice _ rest) (λ x q k. search (rules, tests)) (λ x q k. search (rules, tests))))
