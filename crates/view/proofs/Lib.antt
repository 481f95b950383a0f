-- `Walks`: where the records of a list stand. `Members`: the record of a member of a list that was read. `Objects`: the digits of a
-- spec. `Sources`: the answers of `source`. `Slices`: the bytes of a part.
pub mod Walks
pub mod Members
pub mod Objects
pub mod Sources
pub mod Slices
