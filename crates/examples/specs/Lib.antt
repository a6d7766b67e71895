-- What the examples are about.
-- a line for each record of a stream
pub mod Lines
