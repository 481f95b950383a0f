-- `Answers`: the numbers that a call answers where it writes nothing.
pub mod Answers
-- `Verdicts`: what a call tells of rows that were read.
pub mod Verdicts
