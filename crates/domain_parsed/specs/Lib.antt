pub mod ParsedNames
pub mod Parses
pub mod Splitting
