pub mod Numbers
pub mod Slots
pub mod Zones
