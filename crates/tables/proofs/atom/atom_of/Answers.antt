-- `atom::atom_of` meets its contract: the number at the address's place. Assumes nothing.
use Prim.Native.Nat.{ℕ, ◌^◌}
use Rattle.lent.proofs.Labelled.{held_whole}
use Rattle.meaning.specs.declared.hall.Atoms.{Atoms}
use Rattle.meaning.specs.Hall.{ipv4}
use Rattle.meaning.specs.Tables.{Cuts}
use lib.ListN.{get_or}
use mathlib.Core.Path.{ap, ◌∙◌, subst}
use Rattle.tables.proofs.atom.atom_of.Goals as goal

pub place_of-requires : goal.place_of-requires
place_of-requires c =
    let x = c.requires in
    subst (λ (a : Atoms). Cuts (2 ^ ipv4) a.cut a.count) x.is (held_whole _ _ _ x.held).sound.cuts

pub returns : goal.returns
returns c = c.atom_at.ensures ∙ ap (λ (k : ℕ). get_or c.args.atoms.now.number k 0) c.place_of.ensures.0
