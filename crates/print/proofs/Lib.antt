-- The laws behind the printing: one text after another, the digits of a number, the lanes of a word that holds them, and the room for a line.
-- a text that is stored, and one text after another, which is the two joined
mod Writes
-- the digits of a number, from one to eight at once
mod Digits
-- a link's text, and numbers that are each behind a space
mod Fields
-- numbers side by side in one word, divided all at once
mod Lanes
-- room for a line or too little of it, and that there is no third outcome
mod Rooms
