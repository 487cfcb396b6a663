pub mod Naming
pub mod Cutting
pub mod Blocks
pub mod Params
pub mod Digits
