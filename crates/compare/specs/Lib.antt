-- What the contracts cite: several bytes as one number.
pub mod Word
