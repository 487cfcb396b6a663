pub mod BitmapFaults
pub mod BlockWalk
pub mod Calendar
pub mod FirstBit
pub mod TypesShowing
pub mod TypesWalk
