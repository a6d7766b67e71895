-- Laws of the crate's own relations, which the proofs of its functions cite.
-- leads by links that have an atom, and what they show of all walks
mod Leads
-- how many nodes a set lacks, by which it is seen that what makes it grow ends
mod Missing
-- where a packet stands, and where the links of a plan end
mod Moves
-- sets of atoms carried along links, word by word and row by row
mod Standing
