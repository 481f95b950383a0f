-- `Instructions`: the instruction as places. `Prefixes`: the prefix as a place. `Keys`: what calls for the instruction mean beside what calls
-- for the canonical text leave, document 02's W13.
pub mod Instructions
pub mod Prefixes
pub mod Keys
