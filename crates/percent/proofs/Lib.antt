-- `Steps`: one step of reading. `Walks`: the steps over a whole text.
pub mod Steps
pub mod Walks
