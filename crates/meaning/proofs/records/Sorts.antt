-- A record and its sort determine each other; and when a sort is in its order. Assumes nothing.
use mathlib.Core.Path.{◌≡◌, refl, sym, ap, ◌∙◌}
use Prim.Native.Nat.{◌<◌}
use native.Mathlib.Omega.{arith}
use Rattle.meaning.specs.declared.Record.{Record}
use Rattle.meaning.specs.declared.Record.TheVariants.{Hall, Link, Close, Insert, Remove, Loop, Fate, Reach, Tally}
use Rattle.meaning.specs.Hall.{stage}
use Rattle.meaning.specs.Records.{SetUp, hall, link, close, insert, remove, loop, fate, reach, tally, Sort, set_up, update, question, sort_of, set_up_phase}

-- the record again
unfoldable pub record_for : Sort → Record
record_for (set_up (hall n)) = Hall n
record_for (set_up (link s c e)) = Link s c e
record_for (set_up close) = Close
record_for (update (insert r l p n t)) = Insert r l p n t
record_for (update (remove r)) = Remove r
record_for (question loop) = Loop
record_for (question (fate v a)) = Fate v a
record_for (question (reach v w)) = Reach v w
record_for (question (tally v)) = Tally v

-- THE LAW
pub record_again : (r : Record) → record_for (sort_of r) ≡ r
unfolding sort_of record_for
record_again (Hall n) = refl
record_again (Link s c e) = refl
record_again Close = refl
record_again (Insert r l p n t) = refl
record_again (Remove r) = refl
record_again Loop = refl
record_again (Fate v a) = refl
record_again (Reach v w) = refl
record_again (Tally v) = refl

-- so the sort says which record it is
pub sorted_as : {r : Record} {x : Sort} → sort_of r ≡ x → r ≡ record_for x
sorted_as {r} e = sym (record_again r) ∙ ap record_for e

-- a set-up record comes before the close
pub before_close : (u : SetUp) → stage (set_up_phase u) < 2
unfolding set_up_phase
before_close (hall n) = omega arith
before_close (link s c e) = omega arith
before_close close = omega arith
