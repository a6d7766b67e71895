-- Laws of this crate, by subject.
-- tables of zeros are those of a fresh hall
pub mod Fresh
-- a run step by step
pub mod Running
