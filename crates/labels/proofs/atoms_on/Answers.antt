-- `labels::atoms_on` meets its contract: the ones of a link's words are its atoms. Assumes nothing.
use Prim.Native.Nat.{ℕ, zero, suc, ◌+◌, ◌-◌, ◌*◌, ◌^◌, ◌<◌, ◌≤◌}
use Rattle.lent.proofs.LabelWords.{count_word}
use Rattle.meaning.specs.Labels.{on, how_many}
use Rattle.meaning.specs.Search.{count_below}
use Rattle.std.specs.List.{sum_by}
use Rattle.std.proofs.lemmas.List.{get_or-drop}
use Rattle.std.proofs.lemmas.List.Sums.{sum_by_push}
use Rattle.std.proofs.Math.Seq.{take-suc}
use borrow.Author.Tests.{lt-ltb, le-ltb}
use lib.Count.{ones}
use lib.ListN.{length, get_or, take, drop, length-drop}
use mathlib.Core.List.{List}
use mathlib.Core.Path.{◌≡◌, refl, sym, ap, ap₂, ◌∙◌}
use native.Mathlib.Numerals.{add-one}
use native.Mathlib.Omega.{arith}
use Rattle.labels.proofs.atoms_on.Goals as goal

count_words : (label : List ℕ) (l n : ℕ) → ((i : ℕ) → get_or label i 0 < 2 ^ 64) → 8 * l + n ≤ length label
    → sum_by ones (take n (drop (8 * l) label)) ≡ count_below (64 * n) (on label l)
unfolding count_below
count_words label l zero w h = refl
count_words label l (suc n) w h =
    let one : get_or (drop (8 * l) label) n 0 ≡ get_or label (8 * l + n) 0 = get_or-drop (8 * l) label n 0 in
    ap (sum_by ones) (take-suc (drop (8 * l) label) n 0 (rw length-drop (omega arith)))
    ∙ sum_by_push ones (take n (drop (8 * l) label)) (get_or (drop (8 * l) label) n 0)
    ∙ ap₂ (λ (x y : ℕ). x + ones y) (count_words label l n w (omega arith)) one
    ∙ sym (count_word label l n (w (8 * l + n)))
    ∙ ap (λ (x : ℕ). count_below (64 * x) (on label l)) (add-one n)

pub returns-then-link-ge64 : goal.returns-then-link-ge64
unfolding how_many
returns-then-link-ge64 c = rw (le-ltb _ _ c.if-link-ge64.true)

pub returns : goal.returns
unfolding how_many
returns c =
    let a = c.args in
    let e : 8 * a.link + 8 - 8 * a.link ≡ 8 = omega arith in
    rw (lt-ltb _ _ c.if-link-ge64.false)
    (c.ones_of.ensures ∙ ap (λ (n : ℕ). sum_by ones (take n (drop (8 * a.link) a.label.now))) e ∙ count_words a.label.now a.link 8 c.fits-label (omega arith))
