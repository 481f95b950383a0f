-- `Record`: what the record of an answer is. `Field`: what holding a field of a record to its bytes finds.
pub mod Record
pub mod Field
