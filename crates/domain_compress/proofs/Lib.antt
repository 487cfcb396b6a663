pub mod ComparedInMessage
pub mod Pointing
pub mod Searching
mod WireLength
pub mod Remembering
pub mod Composing
pub mod Marking
pub mod LongerSuffix
pub mod OneResult
mod LabelHashes
pub mod Standing
mod Planning
mod Inside
mod SpelledOut
mod FirstFinds
