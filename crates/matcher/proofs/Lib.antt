-- `Needles`: what the sides of a spec are read as, by the branches of the code. `Leads`: a text that is led as two pieces.
pub mod Needles
pub mod Leads
