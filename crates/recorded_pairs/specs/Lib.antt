-- `PairRecord`: what the record of two specs is.
pub mod PairRecord
