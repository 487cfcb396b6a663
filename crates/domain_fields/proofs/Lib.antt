pub mod Missing
pub mod Ordering
pub mod Parsers
