pub mod Names
pub mod Suffixes
pub mod Builders
pub mod Texts
pub mod Calls
