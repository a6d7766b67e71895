-- The walk of one packet, over any next link and any ends.
-- one move: to a node, out by a link, lost at a node
pub mod Moves
-- walks, fates, and that a walk of as many moves as there are nodes never ends
pub mod Walks
-- circles: one that never ends comes to one, and a circle is short
pub mod Circles
-- the tests of the definitions say what they are named for: round, on a circle, comes to
pub mod Tests
