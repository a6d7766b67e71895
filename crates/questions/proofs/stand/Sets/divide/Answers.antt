-- `stand::Sets::divide` meets its contract. Assumes nothing.
use Rattle.questions.proofs.Standing.{divided}
use Rattle.questions.proofs.stand.Sets.divide.Goals as goal

pub returns : goal.returns
returns c = divided c.requires.0 c.spread.ensures c.outward.ensures c.stay.ensures c.gather.ensures
