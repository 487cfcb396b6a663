pub mod Parents
pub mod Parsing
pub mod FlatNames
pub mod NoNamePastEnd
pub mod Dropping
pub mod Splitting
pub mod ParsedFields
