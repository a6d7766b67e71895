-- What the contracts of the program cite.
-- how many entries of the change list an answer counts, and that they stand there
pub mod Entries
