-- The laws of the reader's functions.
-- a record whose body is cut off
mod CutOff
-- a reader's outcome is the only one
pub mod Once
