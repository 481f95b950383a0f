-- `ConflictBytes`: the bytes of conflicts in a buffer, and where a destination stands. `Indexed`: places of rows that have a destination.
-- `Rooms`: how many rows the largest index has room for.
pub mod ConflictBytes
pub mod Indexed
pub mod Rooms
