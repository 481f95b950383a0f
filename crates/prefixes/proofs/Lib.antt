-- `Distinct`: texts in first-seen order are a group's prefix list. `Texts`: one text of the list. `Tables`: a table of texts.
-- `Adding`: entering what the specs of a group yield. `Groups`: the answer on a spec list.
pub mod Distinct
pub mod Texts
pub mod Tables
pub mod Adding
pub mod Groups
