-- `Places`: what reading answers, as places in the spec's bytes, and what the places denote. `Questions`: document 01's questions in the
-- groups in which the code asks them.
pub mod Places
pub mod Questions
