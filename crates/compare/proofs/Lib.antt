-- `Words`: several bytes as one number. `Blocks`: a text that begins with another. `Sames`: texts of one length. `Orders`: byte order.
pub mod Words
pub mod Blocks
pub mod Sames
pub mod Orders
