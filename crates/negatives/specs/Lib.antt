-- `Negatives`: a negative spec as four numbers of a table, what it matches, and when a table holds the negatives of a group.
-- `Making`: how such a table is made.
pub mod Negatives
pub mod Making
