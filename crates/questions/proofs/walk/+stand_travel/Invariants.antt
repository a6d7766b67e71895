-- The measures of `walk::stand` and `walk::travel`, as one cycle of calls: twice the moves left, with one more for standing.
use Prim.Native.Nat.{◌+◌, ◌*◌}
use Rattle.questions.proofs.walk.+stand_travel.Given as goal

abbrev pub decreases-stand : goal.decreases-stand
decreases-stand l = 2 * l.left + 1

abbrev pub decreases-travel : goal.decreases-travel
decreases-travel l = 2 * l.left
