pub mod Errors
pub mod Framing
pub mod Laws
pub mod Readers
pub mod Views
