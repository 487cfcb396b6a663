pub mod Splitting
pub mod Outcomes
pub mod Fronts
pub mod Owning
pub mod Cutting
pub mod Named
pub mod Lines
