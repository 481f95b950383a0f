-- `Words`: the words for each reason.
pub mod Words
