pub mod Appending
pub mod Octets
pub mod Parsing
pub mod Capacity
