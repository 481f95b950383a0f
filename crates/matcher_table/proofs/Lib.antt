-- `Told`: numbers tell what they were made of. `Tables`: what is stored in a table, and what stays.
pub mod Told
pub mod Tables
