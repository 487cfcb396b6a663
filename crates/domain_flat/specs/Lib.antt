pub mod Flat
pub mod Starts
pub mod Faults
pub mod ErrorText
pub mod FlatLabels
