pub mod Built
pub mod Replies
pub mod Passing
pub mod Finding
pub mod Responding
pub mod SignedSets
pub mod Wholeness
