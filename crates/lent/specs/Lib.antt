-- What contracts between the parts of the box cite. Nothing here must be believed: the public contracts cite `meaning` alone. Assumes nothing.
-- owners and labels entry by entry, and when the whole box is in order
pub mod Owners
-- sets of nodes, a bit for each
pub mod Nodes
-- sets of atoms, carried along the links
pub mod Sets
-- what is left of a record in its order
pub mod Steps
