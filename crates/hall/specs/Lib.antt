-- Definitions that the contracts of this crate's own functions cite. Assumes nothing.
-- what a link's checks say, and what a set-up record leaves of the plan
pub mod Plans
