-- What the inner functions find out. Each is used in contracts between the crate's own functions only.
-- where a packet stands, and what answers about one move and about one node mean
pub mod Moves
-- which node leads to which by a link that has an atom
pub mod Leads
-- one packet more in a tally
pub mod Tallied
-- what is done to a table of sets of atoms
pub mod Standing
