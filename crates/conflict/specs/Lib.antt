-- `Sizes`: the most bytes of each piece of a conflict. `FirstSeen`: the sources of a destination, each once. `Shared`: places of rows that share a destination, and the bytes of their conflict.
pub mod Sizes
pub mod FirstSeen
pub mod Shared
