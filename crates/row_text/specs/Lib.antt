-- `Leads`: how many bytes a text has at most.
pub mod Leads
