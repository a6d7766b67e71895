-- What a reader of document 01 looks for, in its order.
-- the winner is the live rule of the highest priority; what an insert stores and a remove frees
pub mod Winners
-- each address lies in one atom; an atom is on a link exactly when its addresses take the link
pub mod Atoms
-- which boundaries there are, and how many an insert adds
pub mod Boundaries
-- which number each atom takes
pub mod Numbering
-- what an update lists, and that the other nodes' labels stay
pub mod Updates
-- an insert and its own removal, place by place
pub mod Exchange
-- an insert and its own removal: two lists over the same ranges, the links exchanged
pub mod Undone
-- out, lost or round, and the hops
pub mod Fates
-- loop, reach and tally
pub mod Questions
-- where the place stays and where a run stops; the lent list
pub mod Runs
-- no second outcome meets a public contract
pub mod Once
