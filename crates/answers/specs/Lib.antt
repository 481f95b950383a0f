-- `Numbers`: the numbers of the C interface for each case of each answer.
pub mod Numbers
