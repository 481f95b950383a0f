-- `Fields`: fields one after the other. `Texts`: a text of any bytes, and the front of a buffer as one. `Lists`: the prefixes of a record beside a prefix list. `Buffers`: what a call wrote into its
-- buffer. `Answers`: a whole answer, and a whole record.
pub mod Fields
pub mod Texts
pub mod Lists
pub mod Buffers
pub mod Answers
