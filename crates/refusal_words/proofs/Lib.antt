-- `Phrases`: one test of the whole table of phrases, and what it says of each.
pub mod Phrases
