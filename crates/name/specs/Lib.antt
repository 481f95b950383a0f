-- What the contracts of the name rules cite beside the meaning.
pub mod Rules
