-- Boundaries, places, numbers, labels and the change list.
-- the place of an address among the boundaries
pub mod Cuts
-- a boundary is made: the tables are in order again
pub mod Splits
-- each number below the count is one place's
pub mod Numbers
-- winners are the same all over an atom, so that places answer as addresses do
pub mod Constant
-- the words of the labels are their members; without a live rule all are 0
pub mod Labels
-- which places a change list has, in which order, and how many words
pub mod ChangeList
