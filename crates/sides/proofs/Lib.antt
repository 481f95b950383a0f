-- `Told`: the numbers of a side tell it again, and are small enough for a table.
pub mod Told
