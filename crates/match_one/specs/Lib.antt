-- `Answers`: what the parts of the code answer, as places or by their meaning. `Known`: the ends of a name that is known to be matched.
pub mod Answers
pub mod Known
