-- The canonical form of a record (RFC 4034, 6.2).
use Rattle.std.specs.Prelude.{◌≡◌, ◌⊎◌, ℕ, ◌+◌, ◌<◌, Bool, true, false, List, ◌++◌, length}
use Rattle.domain_label.specs.Lowercase.{lowercase_labels}
use Rattle.domain_label.specs.Wire.{wire}
use Rattle.domain_rdata.specs.declared.record_data.CanonicalError.{CanonicalError}
use Rattle.domain_rdata.specs.declared.record_data.CanonicalError.TheVariants.{Append, Long, UnknownNames}
use Rattle.domain_message.specs.Composing.{before_length}

-- what comes before the length of the data: the owner's name, uncompressed and in lowercase, type, class and TTL
abbrev pub canonical_head : List (List ℕ) → ℕ → ℕ → ℕ → List ℕ
canonical_head owner rtype class ttl =
    wire (lowercase_labels owner) ++ before_length rtype class ttl

-- Why the form wasn't appended. If it isn't known which octets of the data are names, that is reported before anything
-- else. Otherwise, there is no room for the octets before the data, or for the data after its length; or the data is
-- too long.
abbrev pub CanonicalRecordRefused : {E : Type 0} → Bool → List ℕ → List ℕ → List ℕ → ℕ → CanonicalError E → Type 0
CanonicalRecordRefused known form head old capacity (Append _) =
    (known ≡ true) × ((capacity < length old + length head) ⊎ (capacity < length (old ++ head) + 2 + length form))
CanonicalRecordRefused known form head old capacity (Long _) = (known ≡ true) × (65535 < length form)
CanonicalRecordRefused known form head old capacity UnknownNames = known ≡ false
