pub mod Digits
pub mod Fields
pub mod Rows
pub mod WordAndNumber
