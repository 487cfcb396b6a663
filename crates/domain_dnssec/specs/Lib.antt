pub mod BitmapReading
pub mod BitmapViews
pub mod Bits
pub mod BlockLaws
pub mod Times
pub mod TypeBitmaps
pub mod TypeViews
pub mod TypesText
