pub mod HexTexts
pub mod Telling
pub mod Failing
