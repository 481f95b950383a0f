-- `Rows`: the fields and the destination of the row at a place. `Keys`: what keys of them are.
pub mod Rows
pub mod Keys
