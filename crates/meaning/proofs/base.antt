-- Numbers, searches, bits and lists, of no hall in particular.
-- numbers side by side: at most or above, below, equal or above
pub mod Order
-- a hall's phase by its number
pub mod Stages
-- some number below a bound has a property, the lowest that has, how many have; a table by its entries
pub mod Search
-- bits of words: set, cleared, joined; a word by its bits
pub mod Bits
-- a value goes in at a place, and what stood above moves up
pub mod InsertAt
-- among more values than there are numbers two are equal
pub mod Pigeon
