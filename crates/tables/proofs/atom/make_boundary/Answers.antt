-- `atom::make_boundary` meets its contract: b was a boundary, or it lies within the atom at its place, which is split. Assumes nothing.
use Rattle.meaning.specs.Box.{state_of}
use Rattle.tables.proofs.Splits.{was_one, Inner, inner, made_is, made_whole}
use mathlib.Core.Path.{◌∙◌}
use native.Mathlib.Omega.{arith}
use Rattle.tables.proofs.atom.make_boundary.Goals as goal
use Rattle.tables.proofs.atom.make_boundary.Goals.{After-atom_at-old}

pub returns-then-atoms-p-clause-state : goal.returns-then-atoms-p-clause-state
returns-then-atoms-p-clause-state c = was_one (state_of c.args.hall.now) _ _ c.place_of-p.ensures.0 c.if-atoms-p.true

within : (c : After-atom_at-old) → Inner (state_of c.args.hall.now) c.args.b c.place_of-p.result.0
within c = let f = c.requires in inner f.whole f.room.0 f.room.1 c.place_of-p.ensures.0 c.if-atoms-p.false

pub insert_entry-requires : goal.insert_entry-requires
insert_entry-requires c =
    let i = within (goal.at.insert_entry-requires c).After-atom_at-old in
    (omega (arith, i.place), omega (arith, i.room, c.requires.whole.sound.cuts.long))

pub insert_entry-requires-2 : goal.insert_entry-requires-2
insert_entry-requires-2 c =
    let i = within (goal.at.insert_entry-requires-2 c).After-atom_at-old in
    (omega (arith, i.place), omega (arith, i.room, c.requires.whole.sound.numbers.long))

pub give-requires : goal.give-requires
give-requires c =
    let i = within (goal.at.give-requires c).After-atom_at-old in
    let h = c.requires.whole.sound.numbers.small _ i.place in
    (omega (arith, c.atom_at-old.ensures, h, i.room), i.room, λ e. omega (arith, c.atom_at-old.ensures, h))

pub returns-clause-state : goal.returns-clause-state
returns-clause-state c =
    let f = c.requires in
    c.give.ensures.state ∙ made_is f.whole f.room.0 (within (goal.at.returns-clause-state c).After-atom_at-old) c.insert_entry.ensures c.insert_entry-2.ensures

pub returns-clause-whole : goal.returns-clause-whole
returns-clause-whole c =
    let f = c.requires in
    made_whole f.whole f.room.0 (within (goal.at.returns-clause-whole c).After-atom_at-old) (returns-clause-state c) (rw c.atom_at-old.ensures at c.give.ensures.given)
