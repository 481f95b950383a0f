-- `TableParts`: a table in memory is its first records and the others. `Shifts`: places in a
-- text that stands in a list. `SpecSteps`: a spec at a place of its list. `SpecReadings`: a spec list that is being read, in numbers.
-- `Groups`: a spec list that is being read into a table. `Told`: what the numbers of a group tell.
pub mod TableParts
pub mod Shifts
pub mod SpecSteps
pub mod SpecReadings
pub mod Groups
pub mod Told
