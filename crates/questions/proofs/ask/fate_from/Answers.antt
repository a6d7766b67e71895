-- `ask::fate_from` meets its contract: the fate of the atom that holds the address is the address's. Assumes nothing.
use Rattle.lent.proofs.Labelled.{held_whole}
use Rattle.lent.proofs.Questions.{fate_at}
use Rattle.meaning.proofs.atoms.Cuts.{place_holds}
use Rattle.questions.proofs.Moves.{stands_at}
use native.Mathlib.Omega.{arith}
use Rattle.questions.proofs.ask.fate_from.Goals as goal

pub follow-requires : goal.follow-requires
follow-requires c =
    let W = held_whole _ _ _ c.requires.held in
    let h = place_holds W.sound.cuts c.args.a (omega (arith, c.ranges.a)) in
    rw c.atom_of-atom.ensures (stands_at W h.within c.requires.v_lt_nodes)

pub returns : goal.returns
returns c =
    let W = held_whole _ _ _ c.requires.held in
    let h = place_holds W.sound.cuts c.args.a (omega (arith, c.ranges.a)) in
    rw (c.follow.ensures, c.atom_of-atom.ensures) (fate_at _ _ _ W _ _ _ h)
