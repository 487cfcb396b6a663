pub mod Composed
pub mod Fitting
pub mod Laws
pub mod Members
pub mod SameData
