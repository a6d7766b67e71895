-- `rule::best_among` meets its contract. The loop's invariant: the best of those passed. Assumes nothing.
use Rattle.meaning.specs.Hall.{ipv4}
use Rattle.meaning.specs.Rule.{rank, covers}
use Rattle.tables.specs.Gathered.{best_in, number_of, IsRule}
use lib.ListN.{get_or}
use mathlib.Core.Path.{◌≡◌}
use Rattle.tables.proofs.rule.best_among.Given as goal

abbrev pub invariant-loop-i : goal.invariant-loop-i
invariant-loop-i l = (number_of l.best ≡ best_in (λ k. covers ipv4 (get_or l.rule k 0) l.a) (λ k. rank ipv4 (get_or l.rule k 0)) l.among l.i-index) × IsRule l.best
