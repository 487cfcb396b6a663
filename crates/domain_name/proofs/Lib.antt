mod Stripping
pub mod NameFields
pub mod Calling
pub mod OneOutcomes
pub mod BuilderCapacity
