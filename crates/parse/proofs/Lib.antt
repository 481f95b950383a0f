-- `Groups`: the groups of questions are the meaning's list.
-- `Places`: the places denote the meaning's texts. `Parts`: a part of a text, and a side that is one. `Splits`: the sign and the split.
-- `Sides`: what is asked of one side. `Order`: the questions in their order. `Reading`: reading itself. `Answers`: what an answer tells.
-- `Reachable`: why the cases that the crate calls unreachable cannot be.
pub mod Groups
pub mod Places
pub mod Parts
pub mod Splits
pub mod Sides
pub mod Order
pub mod Reading
pub mod Answers
pub mod Reachable
