-- A text that is stored, and writing one text after another, which writes the two joined. Assumes nothing.
use Rattle.std.proofs.Common.{◌≡◌, ℕ, suc, ◌+◌, ◌-◌, ◌≤◌, List, [], ◌∷◌, ◌++◌, length, set, take, drop, refl, sym, ap, ◌∙◌, append_assoc, arith, length-append, drop-drop}
use Rattle.std.proofs.lemmas.List.Edits.{sets, sets-eq}
use Rattle.std.proofs.Math.Seq.{length-sets}
use native.Mathlib.Nat.{add-zero, add-suc, suc-add}
use borrow.Rule.Slice.PartMut.{put_mid}
use Rattle.print.specs.Text.{Wrote}

-- a text that is copied to its place, as `buf[at..next]` shows it
pub stored : (text old part : List ℕ) (at : ℕ) → part ≡ text → at + length text ≤ length old
    → Wrote (length text) text old (put_mid at (at + length text - at) old part) at (at + length text)
stored text old part at e h =
    let size : at + length text - at ≡ length text = omega arith in
    let same : put_mid at (at + length text - at) old part ≡ sets old at text =
    ap (put_mid at (at + length text - at) old) e
    ∙ ap (λ (k : ℕ). put_mid at k old text) size
    ∙ ap (λ (s : List ℕ). take at old ++ (text ++ s)) (drop-drop (length text) at old)
    ∙ sym (append_assoc (take at old) text (drop (at + length text) old))
    ∙ sym (sets-eq text old at (omega arith)) in
    record { bytes = same; moved = refl; kept = ap length same ∙ length-sets old at text; near = omega arith }

-- stores of one text and then of another just behind it
sets_both : (xs ys l : List ℕ) (i : ℕ) → sets (sets l i xs) (i + length xs) ys ≡ sets l i (xs ++ ys)
sets_both [] ys l i = ap (λ (k : ℕ). sets l k ys) (add-zero i)
sets_both (x ∷ xs) ys l i =
    ap (λ (k : ℕ). sets (sets (set l i x) (suc i) xs) k ys) (add-suc i (length xs) ∙ sym (suc-add i (length xs)))
    ∙ sets_both xs ys (set l i x) (suc i)

module _ {m n : ℕ} {xs ys old mid new : List ℕ} {at k next : ℕ} where
  pub both : Wrote m xs old mid at k → Wrote n ys mid new k next → Wrote (m + n) (xs ++ ys) old new at next
  both a b = record {
    bytes =
        b.bytes
        ∙ ap (λ (l : List ℕ). sets l k ys) a.bytes
        ∙ ap (λ (i : ℕ). sets (sets old at xs) i ys) a.moved
        ∙ sets_both xs ys old at;
    moved = omega (arith, a.moved, b.moved, length-append xs ys);
    kept = b.kept ∙ a.kept;
    near = omega (arith, a.near, b.near);
  }

-- the same text by another name, and a larger bound
pub also : {m n : ℕ} {xs ys old new : List ℕ} {at next : ℕ} → xs ≡ ys → m ≤ n → Wrote m xs old new at next → Wrote n ys old new at next
also {m} {n} {xs} {ys} {old} {new} {at} {next} e h w = record {
  bytes = w.bytes ∙ ap (λ (s : List ℕ). sets old at s) e;
  moved = w.moved ∙ ap (λ (s : List ℕ). at + length s) e;
  kept = w.kept;
  near = omega (arith, w.near);
}
