pub mod Cutting
pub mod Holding
pub mod ReadingBack
