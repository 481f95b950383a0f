-- `RowQuestions`: question 16. `RowSteps`: what is told of the row at a place of its list, and the list that is being read. `RowWalks`: a
-- walk over a row list that was read.
pub mod RowQuestions
pub mod RowSteps
pub mod RowWalks
