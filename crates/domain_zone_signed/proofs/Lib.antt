mod Among
pub mod Calling
mod Evaluating
mod Joining
mod Leading
mod OneChain
mod Repeating
pub mod Ordering
pub mod Chaining
pub mod Lasting
pub mod Unique
pub mod Existing
pub mod Covering
pub mod Plain
pub mod Convincing
pub mod Searching
pub mod Sources
mod CoveringTypes
mod FindingSignatures
mod Signing
mod OneSigned
