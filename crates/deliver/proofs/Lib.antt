-- `RowTexts`: a row of places, as its line has it. `Walks`: the walks over a row list. `Limits`: the printed text within its limit.
-- `Longer`: rows in print are no shorter than their row list. `Told`: what the numbers of a listing tell. `Lists`: what a spec list and an
-- item list print. `Inputs`: what the input prints.
pub mod RowTexts
pub mod Walks
pub mod Limits
pub mod Longer
pub mod Told
pub mod Lists
pub mod Inputs
