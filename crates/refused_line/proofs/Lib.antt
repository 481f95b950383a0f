-- `Refused`: no name has a byte that is named as refused. `Bytes`: which byte of a text is the first that is looked for. `Sides`: the sides of
-- a spec by its sign and its last colon. `Lines`: which byte of a line a refusal is about. `Messages`: what is said, piece by piece.
pub mod Refused
pub mod Bytes
pub mod Sides
pub mod Lines
pub mod Messages
