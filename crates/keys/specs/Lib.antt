-- `Keys`: what stands at a place, and the keys by which places are ordered.
pub mod Keys
