-- An atom put on a link, and taken off one. Assumes nothing.
use mathlib.Core.List.{List}
use mathlib.Core.Path.{◌≡◌, ap, ◌∙◌}
use Prim.Native.Nat.{ℕ, ◌+◌, ◌-◌, ◌*◌, ◌/◌, ◌%◌, ◌^◌, ◌<◌}
use lib.Bits.{bit_or, bit_and}
use lib.ListN.{length, get_or, set}
use Rattle.meaning.specs.Labels.{on}
use Rattle.lent.proofs.LabelWords.{on_with, on_without}
use Rattle.tables.specs.Bits.{Put, TakenOff}

-- a bit set puts an atom on a link, and a bit cleared takes one off
module _ {a b : List ℕ} {l k : ℕ} (size : length b ≡ 512) (hl : l < 64) (hk : k < 512) where
  pub put_is : a ≡ set b (8 * l + k / 64) (bit_or (get_or b (8 * l + k / 64) 0) (2 ^ (k % 64))) → Put b a l k
  put_is e = record { member = λ m j hm hj. ap (λ (x : List ℕ). on x m j) e ∙ on_with b l k m j size hl hk hj }

  pub taken_off_is : a ≡ set b (8 * l + k / 64) (bit_and (get_or b (8 * l + k / 64) 0) (2 ^ 64 - 1 - 2 ^ (k % 64))) → TakenOff b a l k
  taken_off_is e = record { member = λ m j hm hj. ap (λ (x : List ℕ). on x m j) e ∙ on_without b l k m j size hl hk hj }
