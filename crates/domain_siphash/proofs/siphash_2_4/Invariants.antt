use Rattle.std.proofs.Common.{◌≡◌, ℕ, ◌*◌, ◌≤◌, ◌++◌, length, drop}
use Rattle.domain_siphash.specs.SipHash.{after_words, padding}
use Rattle.domain_siphash.proofs.siphash_2_4.Given as goal

-- some words were taken in, and the octets behind them are left
abbrev pub invariant-words : goal.invariant-words
invariant-words l = (n : ℕ) × (8 * n ≤ length l.octets) × (l.rest ≡ drop (8 * n) l.octets) × (l.state ≡ after_words l.initial.state (l.octets ++ padding (length l.octets)) n)

abbrev pub decreases-words : goal.decreases-words
decreases-words l = length l.rest
