-- The three demands, and that they hold.
-- the statements, each under the words that it says: read this first
pub mod Demands
-- that they hold
pub mod Hold
-- a record is refused for the first reason of the table that it has
pub mod Reasons
-- the count of check 13 is that of the inner boundaries
pub mod Thirteen
-- the hall, the links and the close are those that were accepted
pub mod Declared
-- the live rules are those inserted and not removed since
pub mod InForce
-- a step of two states side by side; what an accepted record was and stored
pub mod Accepted
-- the same live rules: the same winners, fates and answers
pub mod Twins
-- a change list over addresses, which does not depend on the cutting
pub mod ChangedAddresses
-- atom numbers do not matter to any later step
pub mod Renumbered
-- two updates in either order
pub mod EitherOrder
