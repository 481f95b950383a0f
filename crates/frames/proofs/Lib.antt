-- `Candidates`: the candidates of a partial name, number by number. `Seeking`: a name against them.
pub mod Candidates
pub mod Seeking
