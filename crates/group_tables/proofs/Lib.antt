-- `Stood`: one spec is noted after the others. `Groups`: a group that was read is noted.
pub mod Stood
pub mod Groups
