-- `GroupRecord`: what the record of a group is. `GroupField`: what holding a field of such a record to its bytes finds.
pub mod GroupRecord
pub mod GroupField
