pub mod BigEndian
pub mod Reading
pub mod Segments
