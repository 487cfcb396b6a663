pub mod Zone
pub mod Answers
pub mod Laws
pub mod Sorted
pub mod Neighbours
pub mod Views
pub mod Examples
