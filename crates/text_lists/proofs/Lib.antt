-- `LineKinds`: the branches of the questions about a line. `Reasons`: the questions asked of a spec and of a name. `Growth`: a list that grows.
-- `Lines`: the lines of a text. `Starts`: where a line begins. `Walks`: the walk over the lines. `ReadBack`: the lists that are gathered are
-- read back.
pub mod LineKinds
pub mod Reasons
pub mod Growth
pub mod Lines
pub mod Starts
pub mod Walks
pub mod ReadBack
