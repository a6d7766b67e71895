-- Laws of the crate's own relations, which the proofs of its functions cite.
-- an atom's owners given to another, and the links that they name
mod Gives
-- an entry put in at a place, and those above it moved up
mod Inserts
-- an update that is refused
mod Outcomes
-- an atom put on a link, taken off one, moved from one to another
mod Moves
-- a boundary made: it was one, or it is new
mod Splits
-- rules by their words: those at a node, those that tie, the best among gathered ones
mod Rules
-- a sweep place by place: with the owner of one left or changed, one place more is swept
mod Sweeping
-- what a sweep leaves after one rule has changed
mod Updated
