-- `Parts`: texts at places of a row list. `Pieces`: a text and a source, piece by piece. `Listing`: the sources of rows at places. `Shares`:
-- the conflict of rows that share a destination. `Counting`: their sources by a sort.
pub mod Parts
pub mod Pieces
pub mod Listing
pub mod Shares
pub mod Counting
