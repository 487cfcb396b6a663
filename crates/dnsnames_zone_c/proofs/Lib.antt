mod Giving
pub mod Slots
pub mod Values
