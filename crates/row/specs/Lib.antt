-- `Rows`: a row with its texts as places, and the row that it means.
pub mod Rows
