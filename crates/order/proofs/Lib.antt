-- `Sorts`: the stable sort and the merge, by any test that is total and transitive. `Keys`: the order of keys is both. `Merges`: copying,
-- merging and sorting by halves. `Runs`: runs of one key. `Heads`: the first place of each key.
pub mod Sorts
pub mod Keys
pub mod Merges
pub mod Runs
pub mod Heads
