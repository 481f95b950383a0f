-- `Yields`: what a spec yields for its prefix list, as places.
pub mod Yields
