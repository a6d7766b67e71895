-- What is printed, as lists of byte values.
-- a number in decimal, and what it is to write a text into a lent buffer
pub mod Text
-- the lines: one for each record, and one for each entry of a change list
pub mod Lines
