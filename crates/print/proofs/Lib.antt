-- `Decimals`: the digits of a number. `Texts`: a text byte by byte. `Fields`: a field and the byte after it. `Lines`: whole lines.
-- `Unshown`: a text in print stands for the text again.
pub mod Decimals
pub mod Texts
pub mod Fields
pub mod Lines
pub mod Unshown
