-- `Hits`: the pairs of a spec and a name that give a row, and what they give. `Noting`: what the functions ask and answer.
pub mod Hits
pub mod Noting
