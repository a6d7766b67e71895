-- Examples that the checker computes. Assumes nothing.
-- over addresses and over places a step, the lines and a run are the same: so examples can be computed
pub mod ByPlaces
-- the 14 records of the document, in one table under one statement
pub mod Listing
-- both sides of the document's boundaries
pub mod BothSides
-- the premises of demand 3 can be met
pub mod PremisesMet
-- the laws cited for addresses of another width
pub mod AnyWidth
