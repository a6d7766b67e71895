-- Tables of zeros, with the end of the range for the second boundary, are those of the fresh state. Assumes nothing.
use Prim.Native.Nat.{ℕ, ◌^◌}
use lib.ListN.{length, set}
use mathlib.Core.List.{List}
use mathlib.Core.Path.{◌≡◌, ap, ◌∙◌}
use Rattle.meaning.specs.declared.hall.Phase.TheVariants.{Bare}
use Rattle.meaning.specs.Hall.{ipv4, zeroes, State, empty, fresh}

pub fresh_by : (link rule cut number : List ℕ) → link ≡ zeroes 64 → rule ≡ zeroes 256 → cut ≡ zeroes 513 → number ≡ zeroes 512
    → ◌≡◌ {A = State} (record {
      width = ipv4;
      plan = record { phase = Bare; nodes = 0; links = 0; link = link };
      rule = rule;
      atoms = record { count = 1; cut = set cut 1 (2 ^ ipv4); number = number };
    }) fresh
unfolding empty
fresh_by link rule cut number a b c d = rw (a, b, c, d)

-- a table that is filled with what is 0 is zeros, by its length
pub filled : (l m : List ℕ) (n : ℕ) → (((y : ℕ) → y ≡ 0 → y ≡ 0) → m ≡ zeroes (length l)) → length l ≡ n → m ≡ zeroes n
filled l m n after h = after (λ y e. e) ∙ ap zeroes h
