-- One packet more in a tally. Assumes nothing: these are definitions.
use Rattle.std.specs.Prelude.{◌≡◌, ℕ, ◌+◌}
use Rattle.meaning.specs.Search.{pick}
use Rattle.meaning.specs.Questions.{is_out, is_lost, is_round}
use Rattle.meaning.specs.declared.Fate.{Fate}
use Rattle.questions.specs.declared.ask.Counts.{Counts}

-- each count grows by the width where the fate is of its own kind
pub record Counted (c : Counts) (f : Fate) (width : ℕ) (r : Counts) : Type 0 where
  pub out : r.out ≡ c.out + pick (is_out f) width 0
  pub lost : r.lost ≡ c.lost + pick (is_lost f) width 0
  pub round : r.round ≡ c.round + pick (is_round f) width 0
