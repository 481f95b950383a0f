-- `Numbers`: a number as one byte, and three of them. `Reports`: a whole report from its fields. `Records`: a whole record.
pub mod Numbers
pub mod Reports
pub mod Records
