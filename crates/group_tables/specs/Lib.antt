-- `Standing`: what stands in a table for the specs of a group. `Reading`: a group that was read, and its tables.
pub mod Standing
pub mod Reading
