-- What the inner functions do to the tables. Each is used in contracts between the crate's own functions only.
-- one atom put, taken off or moved, by membership
pub mod Bits
-- rules by their words, and the best among gathered ones
pub mod Gathered
-- what an update comes to, as a step
pub mod Outcome
-- what making a boundary does to the labels and the owners
pub mod Rows
-- a sweep over the places from one to below another
pub mod Sweep
