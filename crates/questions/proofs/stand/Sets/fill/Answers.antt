-- `stand::Sets::fill` meets its contract. Assumes nothing.
use Rattle.questions.proofs.Standing.{filled}
use Rattle.questions.proofs.stand.Sets.fill.Goals as goal

pub returns : goal.returns
returns c = filled c.requires.1 c.requires.0 (c.fill.ensures.after (λ y e. e))
