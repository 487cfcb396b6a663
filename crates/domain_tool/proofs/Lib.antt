pub mod Entries
pub mod Listing
pub mod Sections
