pub mod CanonicalForms
pub mod WireForms
pub mod Lengths
pub mod Leaving
