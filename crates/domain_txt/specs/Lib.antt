pub mod Cutting
pub mod OneProof
pub mod Strings
pub mod TxtErrors
pub mod TxtReading
pub mod TxtReadingLaws
pub mod TxtViews
pub mod Txts
