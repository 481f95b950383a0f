-- `Forms`: what a negative looks for, by the form of a text, and that it matches what the meaning's spec excludes. `Arms`: a `match` on
-- a negative. `Tables`: four numbers of a table. `Filling`: the negatives of a group, added one by one. `Asking`: one negative after the other asked.
pub mod Forms
pub mod Arms
pub mod Tables
pub mod Filling
pub mod Asking
