-- `Best`: the index that holds the first of the places offered to it.
pub mod Best
