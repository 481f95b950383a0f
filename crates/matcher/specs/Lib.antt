-- `Matching`: what the places of a matcher and of a row's ends mean, and when a matcher is that of a spec. `Sides`: what the sides of a
-- spec are read as.
pub mod Matching
pub mod Sides
