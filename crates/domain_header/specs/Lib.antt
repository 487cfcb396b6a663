pub mod Bits
pub mod Headers
pub mod Mnemonics
pub mod Numbered
pub mod Numbers
pub mod Rtypes
pub mod Tables
pub mod Values
