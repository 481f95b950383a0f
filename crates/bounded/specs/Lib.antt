-- `Best`: an index that holds the first of the places that it was offered.
pub mod Best
