-- A label table is its members: what words that agree, a bit set or cleared, and a word's ones and trailing zeros say of the atoms on a link.
-- Assumes nothing.
use mathlib.Core.Bool.{Bool, true, false, ◌||◌, ◌&&◌, not, or-false, and-true, and-false}
use mathlib.Core.List.{List}
use mathlib.Core.Path.{◌≡◌, refl, sym, ap, ap₂, ◌∙◌}
use Prim.Native.Nat.{ℕ, zero, suc, ◌+◌, ◌-◌, ◌*◌, ◌/◌, ◌%◌, ◌^◌, ◌<◌}
use native.Mathlib.Nat.{not-suc-le-zero, le_of_suc-le-suc, mod-lt, pow-suc, zero-lt-suc}
use native.Mathlib.Decide.{ℕ_discrete, dec_lt}
use native.Mathlib.Omega.{arith}
use lib.Arith.{lt-one}
use lib.Bits.{bit_or, bit_and}
use lib.Count.{ones, ones_step, count_trailing_zeros, trailing_le, under}
use lib.Dec.{eqb}
use lib.ListN.{length, get_or, set}
use lib.Seq.{ext_get_or, get_or-set_same, get_or-set_other}
use borrow.Author.Tests.{eq-eqb, ne_eqb}
use Rattle.meaning.specs.Search.{count_below}
use Rattle.meaning.specs.Labels.{bit, on}
use Rattle.meaning.proofs.base.Bits.{bit_zero, bit_suc, bit_lt, bit_ext, digit, digit_same, set_bit, clear_bit}
use Rattle.meaning.proofs.base.Search.{count_same, count_add, count_front}
use Rattle.lent.specs.Owners.{Words}

-- the atoms of a link's word i are 64 i and on
pub on_at : (label : List ℕ) (l i b : ℕ) → b < 64 → on label l (64 * i + b) ≡ eqb (bit (get_or label (8 * l + i) 0) b) 1
on_at label l i b h =
    let q : (64 * i + b) / 64 ≡ i = omega arith in
    let r : (64 * i + b) % 64 ≡ b = omega arith in
    ap₂ (λ (x y : ℕ). eqb (bit (get_or label (8 * l + x) 0) y) 1) q r

-- bit j of word i, as an atom on a link
on_word : (label : List ℕ) (i j : ℕ) → j < 64 → on label (i / 8) (64 * (i % 8) + j) ≡ eqb (bit (get_or label i 0) j) 1
on_word label i j h =
    let e : 8 * (i / 8) + i % 8 ≡ i = omega arith in
    on_at label (i / 8) (i % 8) j h ∙ ap (λ (x : ℕ). eqb (bit (get_or label x 0) j) 1) e

-- THE LAW: tables with the same atoms on each link are the same
pub same_words : (a b : List ℕ) → Words a → Words b → ((l k : ℕ) → l < 64 → k < 512 → on a l k ≡ on b l k) → a ≡ b
same_words a b wa wb h =
    ext_get_or 0 a b (wa.size ∙ sym wb.size) (λ i hi.
    bit_ext 64 (get_or a i 0) (get_or b i 0) (wa.word i) (wb.word i) (λ j hj.
    digit_same (bit (get_or a i 0) j) (bit (get_or b i 0) j) (bit_lt (get_or a i 0) j) (bit_lt (get_or b i 0) j)
    (sym (on_word a i j hj) ∙ h (i / 8) (64 * (i % 8) + j) (omega (arith, wa.size)) (omega arith) ∙ on_word b i j hj)))

-- ---- one atom put on a link, and taken off

-- the word of link l that holds atom k
abbrev place : ℕ → ℕ → ℕ
place l k = 8 * l + k / 64

-- (m, j) is (l, k)
abbrev same : ℕ → ℕ → ℕ → ℕ → Bool
same l k m j = eqb m l && eqb j k

-- two atoms that stand in one word are told apart by their bits, and two that do not are not the same
in_word : (l k m j : ℕ) → k < 512 → j < 512 → place m j ≡ place l k → eqb (k % 64) (j % 64) ≡ same l k m j
in_word l k m j hk hj e = go (ℕ_discrete j k)
  where
    ml : eqb m l ≡ true
    ml = eq-eqb m l (omega arith)

    go : Dec (j ≡ k) → eqb (k % 64) (j % 64) ≡ same l k m j
    go (yes p) = eq-eqb (k % 64) (j % 64) (omega arith) ∙ sym (ap₂ ◌&&◌ ml (eq-eqb j k p))
    go (no n) = ne_eqb (k % 64) (j % 64) (λ q. n (omega arith)) ∙ sym (ap₂ ◌&&◌ ml (ne_eqb j k n))

apart : (l k m j : ℕ) → (place m j ≡ place l k → ⊥) → same l k m j ≡ false
apart l k m j n = go (ℕ_discrete m l) (ℕ_discrete j k)
  where
    go : Dec (m ≡ l) → Dec (j ≡ k) → same l k m j ≡ false
    go (yes p) (yes q) = absurd (n (ap₂ place p q))
    go (yes p) (no q) = ap (λ (b : Bool). eqb m l && b) (ne_eqb j k q) ∙ and-false (eqb m l)
    go (no p) d = ap (λ (b : Bool). b && eqb j k) (ne_eqb m l p)

module _ (label : List ℕ) (l k m j : ℕ) (size : length label ≡ 512) (hl : l < 64) (hk : k < 512) (hj : j < 512) where
  w : ℕ
  w = get_or label (place l k) 0

  -- the word of (l, k) becomes x, of which each bit is had by g from the old one and whether it is k's
  on_set : (x : ℕ) (g : Bool → Bool → Bool) → ((b : Bool) → g b false ≡ b) → ((i : ℕ) → i < 64 → eqb (bit x i) 1 ≡ g (eqb (bit w i) 1) (eqb (k % 64) i))
      → on (set label (place l k) x) m j ≡ g (on label m j) (same l k m j)
  unfolding w
  on_set x g off bits = go (ℕ_discrete (place m j) (place l k))
    where
      go : Dec (place m j ≡ place l k) → on (set label (place l k) x) m j ≡ g (on label m j) (same l k m j)
      go (yes e) =
          rw (e, get_or-set_same label (place l k) x 0 (omega arith))
          (bits (j % 64) (mod-lt j (zero-lt-suc 63)) ∙ ap (g (eqb (bit w (j % 64)) 1)) (in_word l k m j hk hj e))
      go (no n) = rw (get_or-set_other label (place l k) (place m j) x 0 n, apart l k m j n) (sym (off (on label m j)))

  pub on_with : on (set label (8 * l + k / 64) (bit_or (get_or label (8 * l + k / 64) 0) (2 ^ (k % 64)))) m j ≡ on label m j || (eqb m l && eqb j k)
  unfolding w
  on_with = on_set (bit_or w (2 ^ (k % 64))) ◌||◌ or-false (λ i h. set_bit w (k % 64) i)

  pub on_without : on (set label (8 * l + k / 64) (bit_and (get_or label (8 * l + k / 64) 0) (2 ^ 64 - 1 - 2 ^ (k % 64)))) m j ≡ on label m j && not (eqb m l && eqb j k)
  unfolding w
  on_without = on_set (bit_and w (2 ^ 64 - 1 - 2 ^ (k % 64))) (λ b t. b && not t) and-true (λ i. clear_bit w (k % 64) i (mod-lt k (zero-lt-suc 63)))

-- ---- how many ones a word has

ones_count : (n w : ℕ) → w < 2 ^ n → ones w ≡ count_below n (λ j. eqb (bit w j) 1)
unfolding ones count_below
ones_count zero w h = ap ones (lt-one h)
ones_count (suc n) w h =
    ones_step w
    ∙ ap₂ (λ (x y : ℕ). x + y)
    (sym (digit (bit w 0) (bit_lt w 0) ∙ bit_zero w))
    (ones_count n (w / 2) (omega (arith, pow-suc 2 n))
    ∙ count_same (λ j. eqb (bit (w / 2) j) 1) (λ j. eqb (bit w (suc j)) 1) n (λ j l. ap (λ (x : ℕ). eqb x 1) (sym (bit_suc w j))))
    ∙ sym (count_front (λ j. eqb (bit w j) 1) n)

-- a word more
pub count_word : (label : List ℕ) (l i : ℕ) → get_or label (8 * l + i) 0 < 2 ^ 64
    → count_below (64 * (i + 1)) (on label l) ≡ count_below (64 * i) (on label l) + ones (get_or label (8 * l + i) 0)
count_word label l i h =
    let more : 64 * (i + 1) ≡ 64 * i + 64 = omega arith in
    ap (λ (x : ℕ). count_below x (on label l)) more ∙ count_add (on label l) (64 * i) 64
    ∙ ap (λ (x : ℕ). count_below (64 * i) (on label l) + x)
    (count_same (λ j. on label l (64 * i + j)) (λ j. eqb (bit (get_or label (8 * l + i) 0) j) 1) 64 (λ j b. on_at label l i j b)
    ∙ sym (ones_count 64 (get_or label (8 * l + i) 0) h))

-- ---- the lowest one of a word

-- every bit below a number's trailing zeros is 0
pub trailing_below : (k w j : ℕ) → j < count_trailing_zeros k w → bit w j ≡ 0
unfolding count_trailing_zeros
trailing_below zero w j h = absurd (not-suc-le-zero h)
trailing_below (suc k) w j h = go (w % 2) refl j h (λ i l. trailing_below k (w / 2) i l)
  where
    go : (d : ℕ) → w % 2 ≡ d → (i : ℕ) → i < under d (count_trailing_zeros k (w / 2)) → ((i : ℕ) → i < count_trailing_zeros k (w / 2) → bit (w / 2) i ≡ 0) → bit w i ≡ 0
    go zero e zero l rest = bit_zero w ∙ e
    go zero e (suc i) l rest = bit_suc w i ∙ rest i (le_of_suc-le-suc l)
    go (suc d) e i l rest = absurd (not-suc-le-zero l)

-- and the bit there is 1, where there is one
pub trailing_at : (k w : ℕ) → count_trailing_zeros k w < k → bit w (count_trailing_zeros k w) ≡ 1
unfolding count_trailing_zeros
trailing_at zero w h = absurd (not-suc-le-zero h)
trailing_at (suc k) w h = go (w % 2) refl h (trailing_at k (w / 2))
  where
    go : (d : ℕ) → w % 2 ≡ d → under d (count_trailing_zeros k (w / 2)) < suc k → (count_trailing_zeros k (w / 2) < k → bit (w / 2) (count_trailing_zeros k (w / 2)) ≡ 1) → bit w (under d (count_trailing_zeros k (w / 2))) ≡ 1
    go zero e l rest = bit_suc w (count_trailing_zeros k (w / 2)) ∙ rest (le_of_suc-le-suc l)
    go (suc d) e l rest = omega (arith, bit_zero w)

-- where no atom of the words before i is on the link, none below word i's lowest one is: with 64 zeros, none of word i
pub none_below : (label : List ℕ) (l i : ℕ) → ((j : ℕ) → j < 64 * i → on label l j ≡ false)
    → (j : ℕ) → j < 64 * i + count_trailing_zeros 64 (get_or label (8 * l + i) 0) → on label l j ≡ false
none_below label l i h j lt = go (dec_lt j (64 * i))
  where
    go : Dec (j < 64 * i) → on label l j ≡ false
    go (yes p) = h j p
    go (no n) =
        let e : j ≡ 64 * i + (j - 64 * i) = omega arith in
        ap (on label l) e ∙ on_at label l i (j - 64 * i) (omega (arith, trailing_le 64 (get_or label (8 * l + i) 0)))
        ∙ ap (λ (x : ℕ). eqb x 1) (trailing_below 64 (get_or label (8 * l + i) 0) (j - 64 * i) (omega arith))

-- and that one is
pub there : (label : List ℕ) (l i : ℕ) → count_trailing_zeros 64 (get_or label (8 * l + i) 0) < 64
    → on label l (64 * i + count_trailing_zeros 64 (get_or label (8 * l + i) 0)) ≡ true
there label l i h =
    on_at label l i (count_trailing_zeros 64 (get_or label (8 * l + i) 0)) h ∙ ap (λ (x : ℕ). eqb x 1) (trailing_at 64 (get_or label (8 * l + i) 0) h)
