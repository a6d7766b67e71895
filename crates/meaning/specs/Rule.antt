-- A rule as one word w, over the width of its addresses in bits: its parts, the addresses that it covers, and when two rules overlap.
-- Assumes nothing: these are definitions.
use Rattle.std.specs.Prelude.{Bool, ◌&&◌, not, ℕ, ◌+◌, ◌-◌, ◌*◌, ◌/◌, ◌%◌, ◌^◌, leb, ltb, eqb}

-- a live rule's word is never 0, and a number that is not live has the word 0
unfoldable pub live : ℕ → Bool
live w = not (eqb w 0)

module _ (width : ℕ) where
  -- how many addresses a prefix of a length covers
  abbrev pub span : ℕ → ℕ
  span length = 2 ^ (width - length)

  -- the prefix below the width; above it the link, how many bits the length leaves free, the priority, and a one
  unfoldable pub rule_word : ℕ → ℕ → ℕ → ℕ → ℕ
  rule_word link prefix length priority = (((2 ^ 16 + priority) * (2 * width) + (width - length)) * 64 + link) * 2 ^ width + prefix

  unfoldable pub link_of : ℕ → ℕ
  link_of w = w / 2 ^ width % 64

  -- how many bits the length leaves free: at most the width, so twice the width has room for it
  unfoldable pub free_of : ℕ → ℕ
  free_of w = w / 2 ^ width / 64 % (2 * width)

  unfoldable pub length_of : ℕ → ℕ
  length_of w = width - free_of w

  -- what decides between two rules: the priority
  unfoldable pub rank : ℕ → ℕ
  rank w = w / 2 ^ width / 64 / (2 * width) % 2 ^ 16

  -- a rule covers the addresses from its lower end up to, and not with, its upper end
  unfoldable pub lower : ℕ → ℕ
  lower w = w % 2 ^ width

  unfoldable pub upper : ℕ → ℕ
  upper w = lower w + 2 ^ free_of w

  unfoldable pub covers : ℕ → ℕ → Bool
  covers w a = leb (lower w) a && ltb a (upper w)

  -- some address is covered by both
  unfoldable pub overlap : ℕ → ℕ → Bool
  overlap v w = ltb (lower v) (upper w) && ltb (lower w) (upper v)
