-- What a rule covers, and when two overlap; the winner and the next link are read off the rules and the links alone. Assumes nothing.
use mathlib.Core.Path.{◌≡◌, refl, ap₂}
use mathlib.Core.Logic.{◌↔◌, ⊎_elim}
use mathlib.Core.Bool.{true, ◌&&◌, and_comm}
use Prim.Native.Nat.{ℕ, ◌≤◌, ◌<◌}
use native.Mathlib.Omega.{arith}
use lib.Pow.{pow_pos}
use lib.Dec.{leb, ltb}
use borrow.Author.Tests.{ltb-true, leb-true, lt-ltb, le-leb}
use Rattle.meaning.specs.Rule.{free_of, lower, upper, covers, overlap}
use Rattle.meaning.specs.Hall.{State, source_of}
use Rattle.meaning.specs.Atoms.{with_cut}
use Rattle.meaning.specs.Winner.{rule_at, eligible, winner, link_for, next_at}
use Rattle.meaning.proofs.base.Order.{le_or_lt}
use Rattle.meaning.proofs.base.Search.{and_both}

module _ (width : ℕ) where
  pub covers_is : (w a : ℕ) → (covers width w a ≡ true) ↔ ((lower width w ≤ a) × (a < upper width w))
  unfolding covers
  covers_is w a = (
    λ e. let b = and_both (leb (lower width w) a) (ltb a (upper width w)) e in (leb-true (lower width w) a b.0, ltb-true a (upper width w) b.1),
    λ h. ap₂ ◌&&◌ (le-leb (lower width w) a h.0) (lt-ltb a (upper width w) h.1),
  )

  pub overlap_comm : (v w : ℕ) → overlap width v w ≡ overlap width w v
  unfolding overlap
  overlap_comm v w = and_comm (ltb (lower width v) (upper width w)) (ltb (lower width w) (upper width v))

  -- rules that cover one address overlap
  pub both_cover : (x y a : ℕ) → covers width x a ≡ true → covers width y a ≡ true → overlap width x y ≡ true
  unfolding overlap
  both_cover x y a p q =
      let b = (covers_is x a).0 p in
      let c = (covers_is y a).0 q in
      ap₂ ◌&&◌ (lt-ltb (lower width x) (upper width y) (omega (arith, b.0, c.1))) (lt-ltb (lower width y) (upper width x) (omega (arith, c.0, b.1)))

  -- two rules overlap exactly when some address is covered by both
  pub overlap_is : (x y : ℕ) → (overlap width x y ≡ true) ↔ ((a : ℕ) × (covers width x a ≡ true) × (covers width y a ≡ true))
  unfolding overlap
  overlap_is x y = (there, λ r. both_cover x y r.0 r.1 r.2)
    where
      wide : (w : ℕ) → lower width w < upper width w
      wide w = unfold upper in omega (arith, pow_pos (free_of width w))

      there : (ltb (lower width x) (upper width y) && ltb (lower width y) (upper width x)) ≡ true → (a : ℕ) × (covers width x a ≡ true) × (covers width y a ≡ true)
      there e =
          let b = and_both (ltb (lower width x) (upper width y)) (ltb (lower width y) (upper width x)) e in
          let p = ltb-true (lower width x) (upper width y) b.0 in
          let q = ltb-true (lower width y) (upper width x) b.1 in
          ⊎_elim
          (λ (h : lower width x ≤ lower width y). (lower width y, (covers_is x (lower width y)).1 (h, q), (covers_is y (lower width y)).1 (omega arith, wide y)))
          (λ (h : lower width y < lower width x). (lower width x, (covers_is x (lower width x)).1 (omega arith, wide x), (covers_is y (lower width x)).1 (omega arith, p)))
          (le_or_lt (lower width x) (lower width y))

-- the same rules over the same links, of addresses of one width
pub record SameRules (m n : State) : Type 0 where
  pub width : m.width ≡ n.width
  pub rule : m.rule ≡ n.rule
  pub link : m.plan.link ≡ n.plan.link

-- a boundary changes none of these
pub cut_alike : (m : State) (b : ℕ) → SameRules (with_cut m b) m
unfolding with_cut
cut_alike m b = record { width = refl; rule = refl; link = refl }

-- the winner and the next link are read off these alone
module _ {m n : State} (A : SameRules m n) where
  pub winner_same : (v a : ℕ) → winner m v a ≡ winner n v a
  unfolding winner eligible rule_at source_of
  winner_same v a = rw (A.width, A.rule, A.link)

  pub next_same : (a v : ℕ) → next_at m a v ≡ next_at n a v
  unfolding next_at link_for rule_at
  next_same a v = rw (winner_same v a, A.width, A.rule)
