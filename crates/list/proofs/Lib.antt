-- `Texts`: a text at a place of a list. `Records`: the records from a place on. `ItemRecords`: an item's questions.
-- `Steps`: what a cursor's answer says of its list. `Readings`: a list that is being read, in numbers. `ItemSteps`: an item at a place
-- of its list, and the list that is being read. `Refusals`: the number of a refusal is above 0. `Told`: what the numbers of an answer
-- tell. `Standing`: where the names of an item list stand.
pub mod Texts
pub mod Records
pub mod ItemRecords
pub mod Steps
pub mod Readings
pub mod ItemSteps
pub mod Refusals
pub mod Told
pub mod Standing
