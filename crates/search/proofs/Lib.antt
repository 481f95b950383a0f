-- `Across`: what numbers in a row give. `Counting`: what is measured, and what is left. `Notes`: what is noted, and what is left.
-- `Given`: what the hits give, and that they are good. `Finding`: the loops of the search. `Writes`: the loop that writes.
pub mod Across
pub mod Counting
pub mod Notes
pub mod Given
pub mod Finding
pub mod Writes
