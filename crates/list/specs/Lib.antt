-- `Cursor`: what stands at a place of a list. `Checked`: what reading a list answers in numbers. `Places`: where the names of an item
-- list stand.
pub mod Cursor
pub mod Checked
pub mod Places
