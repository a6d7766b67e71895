-- `update::sweep` meets its contract. The loop's invariant: the places from f to below p are swept. Assumes nothing.
use Rattle.tables.specs.Sweep.{owner_by, SweptBy}
use lib.ListN.{get_or}
use Rattle.tables.proofs.update.sweep.Given as goal

abbrev pub invariant-loop-p : goal.invariant-loop-p
invariant-loop-p g l =
    SweptBy (λ q. goal.F-post g l.next (get_or l.atoms.cut q 0) (owner_by l.initial.owner l.atoms.number l.v q))
    l.atoms.cut l.atoms.number l.atoms.count l.v l.fn.f.0 l.p (owner_by l.initial.owner l.atoms.number l.v) l.initial.label l.label l.initial.owner l.owner l.initial.list l.list l.k
