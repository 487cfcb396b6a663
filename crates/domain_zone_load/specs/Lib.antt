pub mod Takings
pub mod Loads
