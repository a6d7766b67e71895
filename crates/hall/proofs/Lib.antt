-- Laws of this crate. Assumes nothing.
-- a link's checks by the end that its code and its number say
pub mod Links
-- a set-up record by its change of the plan
pub mod SetUp
