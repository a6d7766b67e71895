-- Reading a record, its checks, and one step.
-- the fields that were read fit their bytes
pub mod Fields
-- a record and its sort determine each other
pub mod Sorts
-- what bytes begin with: nothing, what cannot be read, or a whole record
pub mod Begins
-- the reader, byte by byte
pub mod Reading
-- the checks of a link, an insert and a remove, and what one that passed them has
pub mod Checks
-- one step by its five outcomes; what it writes and what it leaves as it was
pub mod Steps
-- a step passes no more bytes than there are
pub mod Passed
-- the answer to a question alone
pub mod Replies
-- two answers, or two reads, that say the same are the same
pub mod Said
