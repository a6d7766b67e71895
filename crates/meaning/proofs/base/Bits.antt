-- Bits of words: one bit set or cleared, bits joined, a word by its bits. Assumes nothing.
use mathlib.Core.Bool.{Bool, true, false, ◌||◌, ◌&&◌, not}
use mathlib.Core.Path.{◌≡◌, sym, ap, ◌∙◌, refl, ap₂}
use Prim.Native.Nat.{ℕ, zero, suc, ◌+◌, ◌*◌, ◌/◌, ◌%◌, ◌^◌, ◌<◌, ◌-◌, ◌≤◌, min, max}
use native.Mathlib.Nat.{not-suc-le-zero, pow-suc, pow-succ', div-one, div-div-eq-div-mul, mod-lt, zero-div, zero-lt-suc, mod-eq_of_lt, one-mul, sub-zero, le_of_suc-le-suc}
use native.Mathlib.Omega.{arith}
use lib.Dec.{eqb, eqb-zero-suc, eqb-suc-zero, eqb-suc-suc}
use lib.Arith.{lt-one}
use lib.Pow.{pow_pos, pow-lt, pow_mono}
use lib.Bits.{bit_or, bit_and, bit_xor, or_step, and_step, or_shr, and_shr, or_add_and, xor_add_and, and_le_l, and_le_r}
use borrow.Author.Tests.{eq-eqb, ne_eqb}
use Rattle.meaning.specs.Search.{pick}
use Rattle.meaning.specs.Labels.{bit, word_of}

pub word_lt : (n : ℕ) (f : ℕ → Bool) → word_of n f < 2 ^ n
unfolding word_of
word_lt zero f = omega arith
word_lt (suc n) f = go (f 0) (word_lt n (λ j. f (suc j)))
  where
    go : (t : Bool) → word_of n (λ j. f (suc j)) < 2 ^ n → pick t 1 0 + 2 * word_of n (λ j. f (suc j)) < 2 ^ suc n
    go true h = omega (arith, pow-suc 2 n)
    go false h = omega (arith, pow-suc 2 n)

pub bit_zero : (w : ℕ) → bit w 0 ≡ w % 2
bit_zero w = ap (λ (x : ℕ). x % 2) (div-one w)

pub bit_suc : (w j : ℕ) → bit w (suc j) ≡ bit (w / 2) j
bit_suc w j = ap (λ (x : ℕ). w / x % 2) (pow-succ' 2 j) ∙ ap (λ (x : ℕ). x % 2) (sym (div-div-eq-div-mul w 2 (2 ^ j)))

pub word_bit : (n : ℕ) (f : ℕ → Bool) (j : ℕ) → j < n → eqb (bit (word_of n f) j) 1 ≡ f j
unfolding word_of
word_bit zero f j h = absurd (not-suc-le-zero h)
word_bit (suc n) f zero h = rw bit_zero (go (f 0) (word_of n (λ j. f (suc j))))
  where
    go : (t : Bool) (w : ℕ) → eqb ((pick t 1 0 + 2 * w) % 2) 1 ≡ t
    go true w = eq-eqb ((1 + 2 * w) % 2) 1 (omega arith)
    go false w = ne_eqb ((0 + 2 * w) % 2) 1 (λ e. omega arith)
word_bit (suc n) f (suc j) h =
    rw (bit_suc, half (f 0) (word_of n (λ j. f (suc j)))) (word_bit n (λ j. f (suc j)) j (omega arith))
  where
    half : (t : Bool) (w : ℕ) → (pick t 1 0 + 2 * w) / 2 ≡ w
    half true w = omega arith
    half false w = omega arith

pub word_off : (n : ℕ) (f : ℕ → Bool) → ((j : ℕ) → f j ≡ false) → word_of n f ≡ 0
unfolding word_of
word_off zero f h = refl
word_off (suc n) f h = rw (h 0, word_off n (λ j. f (suc j)) (λ j. h (suc j)))

pub bit_lt : (w j : ℕ) → bit w j < 2
bit_lt w j = mod-lt (w / 2 ^ j) (zero-lt-suc 1)

bit_of_zero : (j : ℕ) → bit 0 j ≡ 0
bit_of_zero j = ap (λ (x : ℕ). x % 2) (zero-div (2 ^ j))

-- ---- a digit and its test

abbrev pub digit_of : Bool → ℕ
digit_of t = pick t 1 0

pub digit : (d : ℕ) → d < 2 → digit_of (eqb d 1) ≡ d
digit zero h = refl
digit (suc zero) h = refl
digit (suc (suc d)) h = absurd (not-suc-le-zero (le_of_suc-le-suc (le_of_suc-le-suc h)))

pub digit_same : (d e : ℕ) → d < 2 → e < 2 → eqb d 1 ≡ eqb e 1 → d ≡ e
digit_same d e hd he h = sym (digit d hd) ∙ ap digit_of h ∙ digit e he

or_digit : (p q : Bool) → eqb (max (digit_of p) (digit_of q)) 1 ≡ p || q
or_digit true true = refl
or_digit true false = refl
or_digit false true = refl
or_digit false false = refl

and_digit : (p q : Bool) → eqb (min (digit_of p) (digit_of q)) 1 ≡ p && q
and_digit true true = refl
and_digit true false = refl
and_digit false true = refl
and_digit false false = refl

not_digit : (q : Bool) → eqb (1 - digit_of q) 1 ≡ not q
not_digit true = refl
not_digit false = refl

-- ---- numbers of n bits are equal where their bits are
pub bit_ext : (n a b : ℕ) → a < 2 ^ n → b < 2 ^ n → ((j : ℕ) → j < n → bit a j ≡ bit b j) → a ≡ b
bit_ext zero a b ha hb h = lt-one ha ∙ sym (lt-one hb)
bit_ext (suc n) a b ha hb h =
    let low : a % 2 ≡ b % 2 = sym (bit_zero a) ∙ h 0 (zero-lt-suc n) ∙ bit_zero b in
    let high : a / 2 ≡ b / 2 =
    bit_ext n (a / 2) (b / 2) (omega (arith, pow-suc 2 n)) (omega (arith, pow-suc 2 n))
    (λ j l. sym (bit_suc a j) ∙ h (suc j) (omega arith) ∙ bit_suc b j) in
    omega arith

-- ---- bit by bit: or, and, not, a power

bit_or_lem : (a b j : ℕ) → bit (bit_or a b) j ≡ max (bit a j) (bit b j)
bit_or_lem a b j = ap (λ (x : ℕ). x % 2) (or_shr a b j) ∙ low (a / 2 ^ j) (b / 2 ^ j)
  where
    low : (a b : ℕ) → bit_or a b % 2 ≡ max (a % 2) (b % 2)
    low a b = omega (arith, or_step a b)

bit_and_lem : (a b j : ℕ) → bit (bit_and a b) j ≡ min (bit a j) (bit b j)
bit_and_lem a b j = ap (λ (x : ℕ). x % 2) (and_shr a b j) ∙ low (a / 2 ^ j) (b / 2 ^ j)
  where
    low : (a b : ℕ) → bit_and a b % 2 ≡ min (a % 2) (b % 2)
    low a b = omega (arith, and_step a b)

not_low : (p a : ℕ) → a < p * 2 → (p * 2 - 1 - a) % 2 ≡ 1 - a % 2
not_low p a h =
    let e : p * 2 - 1 - a + a + 1 ≡ p * 2 = omega arith in
    go (p * 2 - 1 - a) e
  where
    go : (x : ℕ) → x + a + 1 ≡ p * 2 → x % 2 ≡ 1 - a % 2
    go x e = omega arith

pub bit_not : (n a j : ℕ) → a < 2 ^ n → j < n → bit (2 ^ n - 1 - a) j ≡ 1 - bit a j
bit_not zero a j h l = absurd (not-suc-le-zero l)
bit_not (suc n) a zero h l =
    bit_zero (2 ^ suc n - 1 - a) ∙ ap (λ (x : ℕ). (x - 1 - a) % 2) (pow-suc 2 n) ∙ not_low (2 ^ n) a (omega (arith, pow-suc 2 n))
    ∙ ap (λ (x : ℕ). 1 - x) (sym (bit_zero a))
bit_not (suc n) a (suc j) h l =
    let half : (2 ^ suc n - 1 - a) / 2 ≡ 2 ^ n - 1 - a / 2 = omega (arith, pow-suc 2 n) in
    bit_suc (2 ^ suc n - 1 - a) j ∙ ap (λ (x : ℕ). bit x j) half
    ∙ bit_not n (a / 2) j (omega (arith, pow-suc 2 n)) (omega arith) ∙ ap (λ (x : ℕ). 1 - x) (sym (bit_suc a j))

bit_power : (b j : ℕ) → bit (2 ^ b) j ≡ digit_of (eqb b j)
bit_power zero zero = refl
bit_power zero (suc j) = bit_suc 1 j ∙ bit_of_zero j ∙ ap digit_of (sym (eqb-zero-suc j))
bit_power (suc b) zero = omega (arith, bit_zero (2 ^ suc b), pow-suc 2 b, ap digit_of (eqb-suc-zero b))
bit_power (suc b) (suc j) =
    let half : 2 ^ suc b / 2 ≡ 2 ^ b = omega (arith, pow-suc 2 b) in
    bit_suc (2 ^ suc b) j ∙ ap (λ (x : ℕ). bit x j) half ∙ bit_power b j ∙ ap digit_of (sym (eqb-suc-suc b j))

-- ---- the same, as tests

-- a digit of a word is that of its test
tested : (w j : ℕ) → bit w j ≡ digit_of (eqb (bit w j) 1)
tested w j = sym (digit (bit w j) (bit_lt w j))

pub or_bits : (a b j : ℕ) → eqb (bit (bit_or a b) j) 1 ≡ eqb (bit a j) 1 || eqb (bit b j) 1
or_bits a b j = ap (λ (x : ℕ). eqb x 1) (bit_or_lem a b j ∙ ap₂ max (tested a j) (tested b j)) ∙ or_digit (eqb (bit a j) 1) (eqb (bit b j) 1)

pub and_bits : (a b j : ℕ) → eqb (bit (bit_and a b) j) 1 ≡ eqb (bit a j) 1 && eqb (bit b j) 1
and_bits a b j = ap (λ (x : ℕ). eqb x 1) (bit_and_lem a b j ∙ ap₂ min (tested a j) (tested b j)) ∙ and_digit (eqb (bit a j) 1) (eqb (bit b j) 1)

pub not_bits : (n b j : ℕ) → b < 2 ^ n → j < n → eqb (bit (2 ^ n - 1 - b) j) 1 ≡ not (eqb (bit b j) 1)
not_bits n b j hb hj = ap (λ (x : ℕ). eqb x 1) (bit_not n b j hb hj ∙ ap (λ (x : ℕ). 1 - x) (tested b j)) ∙ not_digit (eqb (bit b j) 1)

pub without_bits : (a b j : ℕ) → b < 2 ^ 64 → j < 64 → eqb (bit (bit_and a (2 ^ 64 - 1 - b)) j) 1 ≡ eqb (bit a j) 1 && not (eqb (bit b j) 1)
without_bits a b j hb hj = and_bits a (2 ^ 64 - 1 - b) j ∙ ap (λ (t : Bool). eqb (bit a j) 1 && t) (not_bits 64 b j hb hj)

power_bits : (b j : ℕ) → eqb (bit (2 ^ b) j) 1 ≡ eqb b j
power_bits b j = ap (λ (x : ℕ). eqb x 1) (bit_power b j) ∙ go (eqb b j)
  where
    go : (t : Bool) → eqb (digit_of t) 1 ≡ t
    go true = refl
    go false = refl

-- 0 has no bit, and the word of n ones has every bit
pub zero_bits : (j : ℕ) → eqb (bit 0 j) 1 ≡ false
zero_bits j = ap (λ (x : ℕ). eqb x 1) (bit_of_zero j)

pub ones_bits : (n j : ℕ) → j < n → eqb (bit (2 ^ n - 1) j) 1 ≡ true
ones_bits n j h = ap (λ (x : ℕ). eqb (bit x j) 1) (sym (sub-zero (2 ^ n - 1))) ∙ not_bits n 0 j (pow_pos n) h ∙ ap not (zero_bits j)

-- two words that join to none are none, and two that differ nowhere are one
pub or_none : (a b : ℕ) → bit_or a b ≡ 0 → (a ≡ 0) × (b ≡ 0)
or_none a b e = (omega (arith, or_add_and a b, and_le_r a b), omega (arith, or_add_and a b, and_le_l a b))

pub xor_none : (a b : ℕ) → bit_xor a b ≡ 0 → a ≡ b
xor_none a b e = omega (arith, xor_add_and a b, and_le_l a b, and_le_r a b)

-- ---- one bit set, and one cleared

pub set_bit : (w b j : ℕ) → eqb (bit (bit_or w (2 ^ b)) j) 1 ≡ eqb (bit w j) 1 || eqb b j
set_bit w b j = or_bits w (2 ^ b) j ∙ ap (λ (t : Bool). eqb (bit w j) 1 || t) (power_bits b j)

pub clear_bit : (w b j : ℕ) → b < 64 → j < 64 → eqb (bit (bit_and w (2 ^ 64 - 1 - 2 ^ b)) j) 1 ≡ eqb (bit w j) 1 && not (eqb b j)
clear_bit w b j hb hj = without_bits w (2 ^ b) j (pow-lt hb) hj ∙ ap (λ (t : Bool). eqb (bit w j) 1 && not t) (power_bits b j)

-- `1 << b` in a word of n bits
pub shifted : (n b : ℕ) → b < n → 1 * 2 ^ b % 2 ^ n ≡ 2 ^ b
shifted n b h = ap (λ (x : ℕ). x % 2 ^ n) (one-mul (2 ^ b)) ∙ mod-eq_of_lt (pow-lt h)

-- `1 << (k % 64)` at 64 bits has no side condition, so that `rw mask` closes what such a shift leaves
pub mask : (k : ℕ) → 1 * 2 ^ (k % 64) % 2 ^ 64 ≡ 2 ^ (k % 64)
mask k = shifted 64 (k % 64) (mod-lt k (zero-lt-suc 63))

pub mask_le : (k : ℕ) → 1 * 2 ^ (k % 64) % 2 ^ 64 ≤ 2 ^ 63
mask_le k = rw mask (pow_mono {i = k % 64} {j = 63} (omega arith))
