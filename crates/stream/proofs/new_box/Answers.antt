-- `stream::new_box` meets its contract: tables of zeros are the fresh ones. Assumes nothing.
use Rattle.std.proofs.Common.{refl, sym}
use Rattle.lent.proofs.Labelled.{fresh_labels, fresh_owners}
use Rattle.stream.proofs.Fresh.{fresh_by}
use Rattle.stream.proofs.new_box.Goals as goal

pub returns-clause-state : goal.returns-clause-state
returns-clause-state c = fresh_by _ _ _ _ refl refl refl refl

pub returns-clause-labels : goal.returns-clause-labels
returns-clause-labels c = sym fresh_labels

pub returns-clause-owners : goal.returns-clause-owners
returns-clause-owners c = sym fresh_owners
