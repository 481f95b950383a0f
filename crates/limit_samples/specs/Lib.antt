-- `Edges`: the limits of document 01, on either side.
pub mod Edges
