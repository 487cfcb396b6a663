pub mod InAndOut
pub mod Showing
pub mod Entries
pub mod Laying
pub mod Putting
pub mod Recording
