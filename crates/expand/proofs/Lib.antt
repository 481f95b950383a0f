-- `Yields`: what a spec yields. `Lists`: a yield as a prefix list.
pub mod Yields
pub mod Lists
