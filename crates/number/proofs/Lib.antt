-- `Bytes`: which bytes a number has, and how many. `Places`: a number at a place, from the byte there. `Answers`: what an answer says of
-- the bytes. `Writing`: the loop that writes. `Texts`: a text with its
-- length before it. `Round`: what is written is read back, and nothing else is read as it.
pub mod Bytes
pub mod Places
pub mod Answers
pub mod Writing
pub mod Texts
pub mod Round
