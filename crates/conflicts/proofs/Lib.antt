-- `Walks`: a walk over the rows of a list that was read. `Spelled`: how many rows a list has room for. `Filling`: the index of its places.
-- `InOrder`: destinations in byte order, each once. `Grouped`: the conflicts run by run. `Wholes`: all conflicts.
pub mod Walks
pub mod Spelled
pub mod Filling
pub mod InOrder
pub mod Grouped
pub mod Wholes
