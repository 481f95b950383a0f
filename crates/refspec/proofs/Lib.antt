-- `Fronts`: a prefix is what a name begins with. `Instructions`: the places of an instruction mean it. `Answers`: each answer of reading,
-- and what it means. `Reachable`: the sides that an instruction carries are there.
-- `Texts`: the text of a side. `Keys` proves document 02's W13 of calls for the instruction.
pub mod Fronts
pub mod Instructions
pub mod Answers
pub mod Reachable
pub mod Texts
pub mod Keys
