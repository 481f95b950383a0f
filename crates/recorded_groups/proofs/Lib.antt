-- `Fields`: the texts that calls write. `Answers`: a whole answer, and a whole record.
pub mod Fields
pub mod Answers
