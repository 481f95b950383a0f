-- `Line`: the lines of a text, and what a line holds. `Gather`: what the lines of a text give; `Samples`: some of it, computed. `Reasons`: the
-- numbers of the reasons to refuse a line. `Growing`: two lists that grow in their buffers. `Facts`: the lists are read back.
pub mod Line
pub mod Gather
pub mod Samples
pub mod Reasons
pub mod Growing
pub mod Facts
