-- A rule's word, its rank and what it covers.
-- a rule's word, over the width of its addresses, and a link's word: each part is read back from it
pub mod Words
-- the best by rank of those that are eligible
pub mod Ranks
-- what a rule covers, when two overlap; the winner is read off the rules and the links alone
pub mod Covers
