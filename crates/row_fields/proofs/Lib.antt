-- `Fields`: the places of a row that is read part by part denote the row that reading gives.
pub mod Fields
