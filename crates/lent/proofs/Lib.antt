-- The laws by which code on lent tables meets the definitions. Assumes nothing.
-- one bit of a label set or cleared, and the others as they were
pub mod LabelWords
-- labels and owners of a state, and of a fresh one
pub mod Labelled
-- a split: the new atom has the owners and the links of the old
pub mod Splitting
-- an update: which owner a rule is, the places that it covers, and where the owners differ
pub mod OwnerRules
-- one move by the tables, and the questions about a walk, move by move
pub mod Walking
-- the questions over places
pub mod Questions
-- sets of atoms carried along the links
pub mod Sets
-- what a step leaves of the box, by its parts
pub mod Steps
-- what a record is that no arm of a `match` names before its last
pub mod Others
-- and the same by the number of its kind
pub mod ByKind
