-- Every state that came by records is in order.
-- the empty state is in order; what each record keeps, all records keep; a box has IPv4 addresses
pub mod Sound
-- each record keeps the state in order
pub mod Kept
-- the winner is the one eligible rule of the highest rank
pub mod Winner
-- walks stay among the nodes, and the fate is the walk's end
pub mod Ways
-- one rule more or fewer: where the winner changes
pub mod OneRule
