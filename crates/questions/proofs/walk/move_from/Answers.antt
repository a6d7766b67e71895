-- `walk::move_from` meets its contract: the owner's link leads to a node or to an end. Assumes nothing.
use Prim.Native.Nat.{ℕ, ◌≤◌, ◌<◌}
use Rattle.lent.proofs.Walking.{no_owner, to_node, to_end}
use Rattle.lent.specs.Owners.{end_in}
use Rattle.meaning.specs.Walk.{Position, at}
use Rattle.questions.proofs.Moves.{ends_at}
use Rattle.questions.specs.Moves.{IsLed}
use Rattle.std.proofs.Common.{Result, Ok, Err}
use Rattle.std.specs.Result.{OkIff, result_ok}
use mathlib.Core.Path.{◌≡◌}
use native.Mathlib.Omega.{arith}
use Rattle.questions.proofs.walk.move_from.Goals as goal

-- an end below 256 is a node, and any other is none
led : {E : Type 0} (r : Result ℕ E) (n : ℕ) (p : Position) → OkIff r (n < 256) n → (n < 256 → (p ≡ at n) × (n < 16)) → (256 ≤ n → (w : ℕ) → p ≡ at w → ⊥) → IsLed (result_ok r) p
unfolding IsLed
led (Ok x) n p s to end = rw s.1 (to s.0)
led (Err e) n p s to end = end (omega arith)

pub returns-in_err-l : goal.returns-in_err-l
unfolding IsLed
returns-in_err-l c = rw c.from_residual.ensures (no_owner _ _ _ c.requires.node _ c.in_err-l.ensures)

pub returns : goal.returns
unfolding end_in
returns c =
    let P = c.requires in
    let l = c.in_ok-l.ensures in
    let end = rw l.1 at c.try_from.ensures in
    rw c.ok.ensures.value (led c.try_from.result _ _ end (λ h. (to_node _ _ _ P.node _ l.0 h, ends_at P.laid _ h)) (λ h. to_end _ _ _ P.node _ l.0 h))
