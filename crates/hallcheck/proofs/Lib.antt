-- The laws behind the program's loop over the records.
-- what holds before each record of the loop, and what a record leaves
mod Between
