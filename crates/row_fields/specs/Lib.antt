-- `Fields`: the places of a row's fields, and what they denote. `Stages`: a row read on after each of its parts, and its destination.
pub mod Fields
pub mod Stages
