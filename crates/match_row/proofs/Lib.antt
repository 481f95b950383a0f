-- `Sources`: whether the source of a row is gone. `Kept`: the row of a name that stands or is gone. `Objects`: the row of an object source.
-- `Fields`: the row with an item field. `Standing`: a row that is known to stand.
pub mod Sources
pub mod Kept
pub mod Objects
pub mod Fields
pub mod Standing
