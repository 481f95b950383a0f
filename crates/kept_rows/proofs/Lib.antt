-- `Full`: full destinations and kept rows. `Spelled`: a row's bytes as they stand in its list. `Fixes`: the bytes of a fix. `Walks`: the
-- loops over a row list.
pub mod Full
pub mod Spelled
pub mod Fixes
pub mod Walks
