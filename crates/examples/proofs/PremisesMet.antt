-- The premises of the demands can be met: on the document's hall its inserts of rules 0 and 2 are two updates that are accepted in either order.
-- Assumes nothing.
use mathlib.Core.Path.{refl}
use mathlib.Core.List.{List, [], ◌∷◌}
use Prim.Native.Nat.{ℕ}
use native.Mathlib.Omega.{arith}
use Rattle.meaning.specs.Hall.{State, fresh}
use Rattle.meaning.specs.Step.{list_room, step_of}
use Rattle.meaning.specs.Records.{insert}
use Rattle.meaning.specs.Run.{Came, start, more}
use Rattle.meaning.proofs.demands.Demands.{rule_of, then, Accepts, EitherOrder, either}
use Rattle.examples.proofs.Listing.{opened}

-- the hall of the listing, closed
abbrev hall : State
hall =
    then (then (then (then (then fresh list_room (0x01 ∷ 0x02 ∷ []))
    list_room (0x02 ∷ 0x00 ∷ 0x00 ∷ 0x01 ∷ []))
    list_room (0x02 ∷ 0x01 ∷ 0x00 ∷ 0x00 ∷ []))
    list_room (0x02 ∷ 0x01 ∷ 0x01 ∷ 0x07 ∷ []))
    list_room (0x03 ∷ [])

came : Came hall
came = more list_room _ (more list_room _ (more list_room _ (more list_room _ (more list_room _ start))))

-- its inserts of rules 0 and 2
abbrev one : List ℕ
one = 0x04 ∷ 0x00 ∷ 0x00 ∷ 0x00 ∷ 0x00 ∷ 0x00 ∷ 0x00 ∷ 0x00 ∷ 0x00 ∷ 0x00 ∷ 0x01 ∷ []

abbrev two : List ℕ
two = 0x04 ∷ 0x00 ∷ 0x02 ∷ 0x01 ∷ 0x0A ∷ 0x00 ∷ 0x00 ∷ 0x00 ∷ 0x08 ∷ 0x00 ∷ 0x05 ∷ []

one_first : Accepts hall list_room one 0
unfolding opened step_of rule_of
one_first = record { sent = insert 0 0 0 0 1; record_is = refl; names = refl; count = 1; ok = refl }

two_then : Accepts (then hall list_room one) list_room two 2
unfolding opened step_of rule_of
two_then = record { sent = insert 2 1 167772160 8 5; record_is = refl; names = refl; count = 1; ok = refl }

two_first : Accepts hall list_room two 2
unfolding opened step_of rule_of
two_first = record { sent = insert 2 1 167772160 8 5; record_is = refl; names = refl; count = 1; ok = refl }

one_then : Accepts (then hall list_room two) list_room one 0
unfolding opened step_of rule_of
one_then = record { sent = insert 0 0 0 0 1; record_is = refl; names = refl; count = 3; ok = refl }

pub met : EitherOrder (then (then hall list_room one) list_room two) (then (then hall list_room two) list_room one)
met = either list_room list_room list_room list_room one two 0 2 came (λ e. omega arith) one_first two_then two_first one_then
