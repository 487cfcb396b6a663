pub mod Building
pub mod Pushes
pub mod Digits
pub mod Reversing
pub use Rattle.domain_text.proofs.Sizes
pub use Rattle.domain_text.proofs.Grammar
pub use Rattle.domain_text.proofs.OneOutcome
pub use Rattle.domain_text.proofs.Outcomes
