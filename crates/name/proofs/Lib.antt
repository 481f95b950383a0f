-- `Tails`: rules on each byte and on what comes after it. `Parts`: the rule on parts as such a rule. `Names`: the manual's rules are the
-- rules that one look decides. `Stars`: to read the stars as the letter a changes none of these. `After`: what may follow a byte, as the
-- code asks it. `Standing`: how far the bytes of a text stand, and what the text is by that. `Fitting`: plain bytes, of which
-- many are asked at once, stand.
pub mod Tails
pub mod Parts
pub mod Names
pub mod Stars
pub mod After
pub mod Standing
pub mod Fitting
