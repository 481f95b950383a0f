-- `Rests`: what is left of a text from a place on. `Scans`: one step of each look through a text. `Rows`: rules asked one after the other.
-- `Classes`: a `match` on a number. `Lasts`: the last place of a byte. `Sides`: the two sides of a spec by the place of its last colon.
pub mod Rests
pub mod Scans
pub mod Rows
pub mod Classes
pub mod Lasts
pub mod Sides
