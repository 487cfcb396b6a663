pub mod Hashing
pub mod Covering
pub mod Records
pub mod Labels
pub mod Enclosers
