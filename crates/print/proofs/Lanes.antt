-- Numbers side by side in one word, each in a lane of its own: dividing all at once by a product, a shift and a mask. Assumes nothing.
use mathlib.Core.Path.{◌≡◌, sym, ap, ap₂, subst₂, ◌∙◌}
use mathlib.Core.List.{◌++◌}
use Prim.Native.Nat.{ℕ, ◌+◌, ◌-◌, ◌*◌, ◌/◌, ◌%◌, ◌^◌, ◌<◌, ◌≤◌}
use native.Mathlib.Omega.{arith}
use lib.Bits.{bit_and, and_block, and_mask}
use Rattle.print.specs.Text.{pair, eight, packed}

-- half a word: a lane of four bytes
abbrev lane : ℕ
lane = 256 ^ 4

-- the hundreds of a number below 10,000 in a lane of four bytes, in front of other lanes
hundreds_lane : (a w m : ℕ) → a < 10000
    → bit_and ((a + w * lane) * 5243 / 524288) (m * lane + 127) ≡ a / 100 + bit_and (w * 5243 / 524288) m * lane
hundreds_lane a w m h =
    let low = a / 100 + w * 5243 % 524288 * 8192 in
    let parts : (a + w * lane) * 5243 / 524288 ≡ w * 5243 / 524288 * lane + low = omega arith in
    ap (λ (x : ℕ). bit_and x (m * lane + 127)) parts
    ∙ and_block 32 (w * 5243 / 524288) m low 127 (omega arith) (omega arith)
    ∙ ap (λ (x : ℕ). bit_and (w * 5243 / 524288) m * lane + x) (and_mask low 7)
    ∙ omega arith

-- the tens of a number below 100 in a lane of 16 bits, in front of other lanes
tens_lane : (a w m : ℕ) → a < 100 → bit_and ((a + w * 65536) * 103 / 1024) (m * 65536 + 15) ≡ a / 10 + bit_and (w * 103 / 1024) m * 65536
tens_lane a w m h =
    let low = a / 10 + w * 103 % 1024 * 64 in
    let parts : (a + w * 65536) * 103 / 1024 ≡ w * 103 / 1024 * 65536 + low = omega arith in
    ap (λ (x : ℕ). bit_and x (m * 65536 + 15)) parts
    ∙ and_block 16 (w * 103 / 1024) m low 15 (omega arith) (omega arith)
    ∙ ap (λ (x : ℕ). bit_and (w * 103 / 1024) m * 65536 + x) (and_mask low 4)
    ∙ omega arith

-- two such lanes
both_hundreds : (a b : ℕ) → a < 10000 → b < 10000
    → bit_and ((a + b * lane) * 5243 / 524288) 545460846719 ≡ a / 100 + b / 100 * lane
both_hundreds a b ha hb =
    let e : b * 5243 / 524288 ≡ b / 100 = omega arith in
    let last : bit_and (b * 5243 / 524288) 127 ≡ b / 100 = rw e (and_mask (b / 100) 7 ∙ omega arith) in
    hundreds_lane a b 127 ha ∙ ap (λ (x : ℕ). a / 100 + x * lane) last

-- four lanes of 16 bits
abbrev lanes : ℕ → ℕ → ℕ → ℕ → ℕ
lanes a b c d = a + (b + (c + d * 65536) * 65536) * 65536

all_tens : (a b c d : ℕ) → a < 100 → b < 100 → c < 100 → d < 100
    → bit_and (lanes a b c d * 103 / 1024) 4222189076152335 ≡ lanes (a / 10) (b / 10) (c / 10) (d / 10)
all_tens a b c d ha hb hc hd =
    let e : d * 103 / 1024 ≡ d / 10 = omega arith in
    let last : bit_and (d * 103 / 1024) 15 ≡ d / 10 = rw e (and_mask (d / 10) 4 ∙ omega arith) in
    tens_lane a (b + (c + d * 65536) * 65536) 64425492495 ha
    ∙ ap (λ (x : ℕ). a / 10 + x * 65536) (tens_lane b (c + d * 65536) 983055 hb)
    ∙ ap (λ (x : ℕ). a / 10 + (b / 10 + x * 65536) * 65536) (tens_lane c d 15 hc)
    ∙ ap (λ (x : ℕ). lanes (a / 10) (b / 10) (c / 10) x) last

lanes_small : (a b c d : ℕ) → a < 100 → b < 100 → c < 100 → d < 100 → lanes a b c d < 28147497671065600
lanes_small a b c d ha hb hc hd = omega arith

tens_less : (a b c d : ℕ) → lanes (a / 10) (b / 10) (c / 10) (d / 10) * 10 ≤ lanes a b c d
tens_less a b c d = omega arith

-- each lane's tens and ones, as bytes
all_digits : (a b c d : ℕ) → 3472328296227680304 + lanes a b c d * 256 - lanes (a / 10) (b / 10) (c / 10) (d / 10) * 2559
    ≡ packed ((pair a ++ pair b) ++ (pair c ++ pair d))
all_digits a b c d = omega arith

-- THE STEPS of `pack_eight`: its halves, their hundreds, the pairs, their tens, and the bytes
module _ (n : ℕ) (h : n < 100000000) where
  abbrev halves : ℕ
  halves = n / 10000 + n % 10000 * lane

  abbrev hundreds : ℕ
  hundreds = bit_and (halves * 5243 / 524288) 545460846719

  abbrev pairs : ℕ
  pairs = halves * 65536 - hundreds * 6553599

  abbrev tens : ℕ
  tens = bit_and (pairs * 103 / 1024) 4222189076152335

  pub hundreds_are : hundreds ≡ n / 10000 / 100 + n % 10000 / 100 * lane
  hundreds_are = both_hundreds (n / 10000) (n % 10000) (omega arith) (omega arith)

  -- the four pairs of digits
  abbrev first : ℕ
  first = n / 10000 / 100

  abbrev second : ℕ
  second = n / 10000 % 100

  abbrev third : ℕ
  third = n % 10000 / 100

  abbrev fourth : ℕ
  fourth = n % 10000 % 100

  pairs_are : pairs ≡ lanes first second third fourth
  pairs_are = ap (λ (x : ℕ). halves * 65536 - x * 6553599) hundreds_are ∙ omega arith

  tens_are : tens ≡ lanes (first / 10) (second / 10) (third / 10) (fourth / 10)
  tens_are =
      ap (λ (x : ℕ). bit_and (x * 103 / 1024) 4222189076152335) pairs_are
      ∙ all_tens first second third fourth (omega arith) (omega arith) (omega arith) (omega arith)

  pub pairs_fit : pairs < 28147497671065600
  pairs_fit = rw pairs_are (lanes_small first second third fourth (omega arith) (omega arith) (omega arith) (omega arith))

  pub tens_fit : tens * 10 ≤ pairs
  tens_fit = subst₂ (λ (x y : ℕ). x * 10 ≤ y) (sym tens_are) (sym pairs_are) (tens_less first second third fourth)

  pub digits_are : 3472328296227680304 + pairs * 256 - tens * 2559 ≡ packed (eight n)
  digits_are =
      ap₂ (λ (x y : ℕ). 3472328296227680304 + x * 256 - y * 2559) pairs_are tens_are
      ∙ all_digits first second third fourth
