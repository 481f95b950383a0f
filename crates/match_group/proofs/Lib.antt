-- `Listings`: the bytes of a listing are those that the loops write. `Tables`: a table and places give what the group and the names give.
-- `Writes`: the parts of a listing are written. `Entry`: a listing as a whole, and how it meets its buffer.
pub mod Listings
pub mod Tables
pub mod Writes
pub mod Entry
