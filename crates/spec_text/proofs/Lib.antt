-- `Meets`: the answer of a call that writes what a spec means.
pub mod Meets
