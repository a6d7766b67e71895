-- One move of a walk: the packet goes on to a node, leaves by a port, or is lost where it stands. Assumes nothing.
use mathlib.Core.Path.{◌≡◌, refl, ap, ◌∙◌}
use mathlib.Core.Logic.{◌↔◌, ◌⊎◌, inl, inr}
use mathlib.Core.Bool.{Bool, true, false}
use mathlib.Core.Option.{Option, none, some}
use Prim.Native.Nat.{ℕ, ◌≤◌, ◌<◌}
use native.Mathlib.Omega.{arith}
use lib.Dec.{ltb}
use borrow.Author.Tests.{ltb-true, ltb-false, lt-ltb, le-ltb}
use Rattle.meaning.specs.Search.{pick}
use Rattle.meaning.specs.Walk.{Position, at, out, lost, arrive, leave, move}
use Rattle.meaning.proofs.base.Order.{clash}

module _ (next : ℕ → Option ℕ) (end : ℕ → ℕ) (v : ℕ) where
  -- the packet goes on to node w by a link that ends there
  abbrev pub GoesTo : ℕ → Type 0
  GoesTo w = (l : ℕ) × (next v ≡ some l) × (end l ≡ w) × (w < 256)

  -- it leaves by link l, which ends at a port
  abbrev pub LeavesBy : ℕ → Type 0
  LeavesBy l = (next v ≡ some l) × (256 ≤ end l) × (end l < 512)

  -- it is lost: there is no link, or the link ends at the drop
  abbrev pub IsLostAt : Type 0
  IsLostAt = (next v ≡ none) ⊎ ((l : ℕ) × (next v ≡ some l) × (512 ≤ end l))

  data Moved : Position → Type 0 where
    to : (l : ℕ) → next v ≡ some l → end l < 256 → Moved (at (end l))
    by : (l : ℕ) → next v ≡ some l → 256 ≤ end l → end l < 512 → Moved (out l)
    off : IsLostAt → Moved (lost v)

  moved : Moved (move next end (at v))
  unfolding move leave arrive
  moved = go (next v) refl
    where
      arrived : (l : ℕ) → next v ≡ some l → (x y : Bool) → ltb (end l) 256 ≡ x → ltb (end l) 512 ≡ y → Moved (pick x (at (end l)) (pick y (out l) (lost v)))
      arrived l e true y f g = to l e (ltb-true (end l) 256 f)
      arrived l e false true f g = by l e (ltb-false (end l) 256 f) (ltb-true (end l) 512 g)
      arrived l e false false f g = off (inr (l, e, ltb-false (end l) 512 g))

      go : (o : Option ℕ) → next v ≡ o → Moved (leave end v o)
      go none e = off (inl e)
      go (some l) e = arrived l e (ltb (end l) 256) (ltb (end l) 512) refl refl

  -- THE LAWS OF ONE MOVE: to a node, out by a port, or lost
  pub goes_to : (w : ℕ) → (move next end (at v) ≡ at w) ↔ GoesTo w
  unfolding move leave arrive
  goes_to w = (there _ moved, back)
    where
      there : (p : Position) → Moved p → p ≡ at w → GoesTo w
      there p (to l e h) f = let q : end l ≡ w = cc in (l, e, q, omega arith)
      there p (by l e h g) f = clash cc
      there p (off x) f = clash cc

      back : GoesTo w → move next end (at v) ≡ at w
      back (l, e, g, h) = rw (e, lt-ltb (end l) 256 (omega arith)) (ap at g)

  pub leaves_by_lem : (l : ℕ) → (move next end (at v) ≡ out l) ↔ LeavesBy l
  unfolding move leave arrive
  leaves_by_lem k = (there _ moved, back)
    where
      there : (p : Position) → Moved p → p ≡ out k → LeavesBy k
      there p (to l e h) f = clash cc
      there p (by l e h g) f = let q : l ≡ k = cc in (e ∙ ap some q, rw q at h, rw q at g)
      there p (off x) f = clash cc

      back : LeavesBy k → move next end (at v) ≡ out k
      back (e, g, h) = rw (e, le-ltb (end k) 256 g, lt-ltb (end k) 512 h)

  pub lost_at_lem : (move next end (at v) ≡ lost v) ↔ IsLostAt
  unfolding move leave arrive
  lost_at_lem = (there _ moved, back)
    where
      there : (p : Position) → Moved p → p ≡ lost v → IsLostAt
      there p (to l e h) f = clash cc
      there p (by l e h g) f = clash cc
      there p (off x) f = x

      back : IsLostAt → move next end (at v) ≡ lost v
      back (inl e) = rw e
      back (inr (l, e, g)) = rw (e, le-ltb (end l) 256 (omega arith), le-ltb (end l) 512 g)

  -- a packet that a move loses is lost where it stood
  pub lost_here : (w : ℕ) → move next end (at v) ≡ lost w → w ≡ v
  lost_here w = go _ moved
    where
      go : (p : Position) → Moved p → p ≡ lost w → w ≡ v
      go p (to l e h) f = clash cc
      go p (by l e h g) f = clash cc
      go p (off x) f = cc
