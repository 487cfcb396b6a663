mod LabelReading
mod LowercaseLemmas
pub mod CanonicalForm
mod OwnedLemmas
mod OwnedMemory
mod MutMemory
mod RawReads
pub mod ComparedOctets
pub mod ReadOnce
pub mod Scanning
pub mod LabelOctets
pub mod SplitLaws
mod WalkLemmas
pub mod WireLaws
mod FollowingParts
mod SlicePairs
mod CutCalls
mod PastCalls
mod LabelPairs
mod FoundCalls
mod KnownCalls
