-- `Answers`: what the report answers, in each of its cases. `Targets`: where a spec writes, as a text and a target of it, and room for the
-- digits of a literal that is led.
pub mod Answers
pub mod Targets
