-- What the functions that read do for each other.
-- what a reader returns and leaves when it reads on
pub mod Readers
