pub mod Base32
pub mod Names
pub mod FieldTexts
pub mod Held
