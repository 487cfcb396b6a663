pub mod Addresses
pub mod FixedLength
pub mod Numbers
pub mod Refusals
pub mod Values
pub mod Whole
