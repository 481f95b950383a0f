-- What contracts on byte texts cite beside the meaning. `Place`: the first place of a byte. `Last`: the last place of a byte.
pub mod Place
pub mod Last
