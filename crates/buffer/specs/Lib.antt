-- What contracts on a buffer cite. `Splice`: a text written into it. `Answers`: what a call on one buffer answers.
pub mod Splice
pub mod Answers
