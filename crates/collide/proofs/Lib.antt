-- `Told`: how each answer meets the buffer. `Pieces`: a literal in two pieces, compared with another and with a pattern. `Shared`: what two targets
-- share, by the branches of the code. `Reports`: the targets of specs that were read, and the report.
pub mod Told
pub mod Pieces
pub mod Shared
pub mod Reports
