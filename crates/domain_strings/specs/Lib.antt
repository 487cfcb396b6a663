pub mod Base16
pub mod CharStringLaws
pub mod CharStrings
pub mod Quoted
pub mod TagLaws
pub mod TagViews
pub mod Tags
pub mod Views
