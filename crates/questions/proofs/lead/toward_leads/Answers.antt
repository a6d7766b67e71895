-- `lead::toward_leads` meets its contract: each step keeps node w, and the last one finds no more. Assumes nothing.
use Prim.Native.Nat.{◌<◌}
use Rattle.lent.specs.Nodes.{among}
use Rattle.questions.proofs.Leads.{grown_keeps, toward_start, toward_settled}
use borrow.Author.Rules.{rules}
use mathlib.Core.Bool.{true}
use mathlib.Core.Path.{◌≡◌, refl}
use Rattle.questions.proofs.lead.toward_leads.Goals as goal

pub returns : goal.returns
returns c =
    let w = c.args.w in
    toward_settled _ _ _ _ (grown_keeps _ (λ to. w < 16 → among to w ≡ true) (λ x y o r. search rules) _ _ (toward_start w) c.settle.ensures.from) (search rules) refl
