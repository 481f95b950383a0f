-- `Table`: a record of a group's table, and the spec that it tells. `Group`: what reading a spec list answers.
pub mod Table
pub mod Group
