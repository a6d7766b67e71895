-- `stand::leaving_links` meets its contract. The loop's invariant: the first l links are in. Assumes nothing.
use Rattle.questions.specs.Standing.{Leaving}
use Rattle.questions.proofs.stand.leaving_links.Given as goal

abbrev pub invariant-loop-l : goal.invariant-loop-l
invariant-loop-l l = Leaving l.plan.link l.l l.leaving
