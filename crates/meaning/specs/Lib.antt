-- What document 01 says, as definitions: what a reader must believe. One file a section, in the document's order. Assumes nothing.
-- The laws that show that these are the definitions meant stand in proofs/.
-- choosing by a test, finding and counting
pub mod Search
-- the hall: its state, the fresh state, links
pub mod Hall
-- a rule as one word, what it covers, when two overlap
pub mod Rule
-- the winner for an address at a node
pub mod Winner
-- boundaries and atoms, and how a boundary is made
pub mod Atoms
-- the label of a link, and what is asked of it
pub mod Labels
-- the change list
pub mod Changes
-- the walk of one packet
pub mod Walk
-- fate, loop, reach and tally, over addresses
pub mod Questions
-- records and their order
pub mod Records
-- what one record does
pub mod Step
-- a run over a whole stream, and which states come by records
pub mod Run
-- answers and records in the document's terms
pub mod Answers
-- how the box works things out, which need not be believed
pub mod Working
-- what it is for tables and states to be in order
pub mod Tables
-- and the box as it is lent
pub mod Box
