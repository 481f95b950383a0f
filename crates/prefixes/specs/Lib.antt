-- `Distinct`: texts in first-seen order, each once. `Table`: the texts that a table of entries denotes. `Group`: a call that meets its
-- buffer with a group's prefix list.
pub mod Distinct
pub mod Table
pub mod Group
