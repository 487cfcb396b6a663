pub mod Forms
pub mod Fields
pub mod Rdatas
pub mod Table
pub mod Values
