-- `Sorting`: the stable sort of a list, the merge of two, runs and firsts. `Keys`: places in the order of their keys. `Rooms`: the room that
-- a sort needs.
pub mod Sorting
pub mod Keys
pub mod Rooms
