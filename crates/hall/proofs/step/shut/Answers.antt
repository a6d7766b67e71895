-- `hall::step::shut` meets its contract. Assumes nothing.
use Rattle.std.proofs.Common.{refl}
use Rattle.meaning.specs.Step.{set_up_refusal, planned}
use Rattle.hall.proofs.step.shut.Goals as goal

pub returns : goal.returns
unfolding set_up_refusal planned
returns c = (refl, refl)
