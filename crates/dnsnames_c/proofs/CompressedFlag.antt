-- The number that tells whether a name is compressed.
use Rattle.std.proofs.Common.{◌≡◌, ℕ, List, Bool, true, false, refl, inl, inr}
use Rattle.std.proofs.lemmas.Bool.{true≢false}
use Rattle.domain_reading.specs.Grammar.{IsContiguous}
use Rattle.dnsnames_c.specs.Answers.{CompressedNumber}
use Rattle.dnsnames_c.specs.Status.{bit_number}

-- A truth value that says so, as its number.
pub compressed_number : (m : List ℕ) (p : ℕ) (b : Bool) (n : ℕ) → n ≡ bit_number b → (b ≡ false → IsContiguous m p) → (IsContiguous m p → b ≡ false) → CompressedNumber m p n
compressed_number m p false n e to from = inl (e, to refl)
compressed_number m p true n e to from = inr (e, λ contiguous. true≢false (from contiguous))
