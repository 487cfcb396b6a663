pub mod Hexadecimal
pub mod Lines
pub mod Following
pub mod Engines
pub mod LastLines
pub mod Asked
