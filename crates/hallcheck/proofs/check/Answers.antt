-- The box is fresh.
use Rattle.hallcheck.proofs.Between.{held_fresh}
use Rattle.hallcheck.proofs.check.Goals as goal

pub print_all-requires-clause-held : goal.print_all-requires-clause-held
print_all-requires-clause-held g c = let E = c.new_box-hall.ensures in held_fresh _ _ _ E.state E.labels E.owners
