-- The laws of document 01's definitions, a room a subject; each room's file is a tour of it. Assumes nothing.
-- The demands, and what a reader of the document looks for:
-- the three demands, and that they hold
pub mod demands
-- what a reader of document 01 looks for, in its order
pub mod document
-- and what they stand on, from the top down:
-- every state that came by records is in order
pub mod sound
-- boundaries, places, numbers, labels and the change list
pub mod atoms
-- reading a record, its checks, and one step
pub mod records
-- the walk of one packet, over any next link and any ends
pub mod walk
-- a rule's word, its rank and what it covers
pub mod rules
-- numbers, searches, bits and lists, of no hall in particular
pub mod base
