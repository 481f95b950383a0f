-- The meaning of documents 01 and 02, on bytes; docs/READING.md teaches the notation. Read from the top: each file rests on those above it. A
-- name in kebab-case is a fact, also where it is a field of a record; any other name is a definition, save that of a few facts, as refusal_is.
pub mod Limits
pub mod Bytes
pub mod Names
pub mod Spec
pub mod Buffers
pub mod Instruction
pub mod Prefix
pub mod Number
pub mod Lists
pub mod Rows
pub mod Match
pub mod Listing
pub mod Validation
pub mod Entries
pub mod View
pub mod Collide
pub mod Deliveries
pub mod Everything
pub mod Table
pub mod Samples
pub mod BufferSamples
pub mod CollideSamples
pub mod KeySamples
