-- The canonical form of record data (RFC 4034, 6.2).
use Rattle.std.specs.Prelude.{◌≡◌, ℕ, ◌+◌, ◌<◌, ◌≤◌, Bool, true, not, if◌then◌else◌, List, ◌++◌, length, codes, Option, None, Some}
use Rattle.std.specs.Int.{w16, to_be_bytes}
use Rattle.domain_rdata.specs.Rtypes.{has_lowercase_names}
use Rattle.domain_rdata.specs.declared.record_data.ComposeRdataError.{ComposeRdataError}
use Rattle.domain_rdata.specs.declared.record_data.ComposeRdataError.TheVariants.{Append, Long}
use Rattle.domain_rdata.specs.declared.record_data.CanonicalError.{CanonicalError}
use Rattle.domain_rdata.specs.declared.record_data.CanonicalError.TheVariants as canonical

-- The octets with each name in lowercase, if it is known which octets are names. Otherwise, the octets unchanged.
abbrev pub lowercase_where_known : List ℕ → Option (List ℕ) → List ℕ
lowercase_where_known octets None = octets
lowercase_where_known octets (Some lowercase) = lowercase

-- What the canonical call appends for data of the type t. `uncompressed` is the octets of the data with no name
-- compressed. `lowercase` is these octets with all names in lowercase, if it is known which octets are names. Names of
-- other types keep their case (RFC 3597, 7).
abbrev pub canonical_form : ℕ → List ℕ → Option (List ℕ) → List ℕ
canonical_form t uncompressed lowercase =
    if has_lowercase_names t then lowercase_where_known uncompressed lowercase else uncompressed

-- That is the canonical form: the type has no names in lowercase there, or it is known which octets are names.
abbrev pub names_known : ℕ → Option (List ℕ) → Bool
names_known t None = not (has_lowercase_names t)
names_known t (Some lowercase) = true

-- The form was appended.
abbrev pub WithForm : List ℕ → List ℕ → List ℕ → Type 0
WithForm form old new = new ≡ old ++ form

-- The length of the form in two octets and then the form were appended.
abbrev pub WithLengthAndForm : List ℕ → List ℕ → List ℕ → Type 0
WithLengthAndForm form old new = (length form ≤ 65535) × (new ≡ old ++ to_be_bytes w16 (length form) ++ form)

-- Why the form wasn't appended: it exceeds the capacity,
abbrev pub FormExceeds : List ℕ → List ℕ → ℕ → Type 0
FormExceeds form old capacity = capacity < length old + length form

-- or does with its length, or has more octets than a length tells.
abbrev pub CanonicalRefused : {E : Type 0} → List ℕ → List ℕ → ℕ → ComposeRdataError E → Type 0
CanonicalRefused form old capacity (Append _) = capacity < length old + 2 + length form
CanonicalRefused form old capacity (Long _) = 65535 < length form

-- the text that says why a record has no canonical form, or why it wasn't appended
abbrev pub canonical_error_text : {E : Type 0} → CanonicalError E → List ℕ
canonical_error_text (canonical.Append _) = codes "buffer size exceeded"
canonical_error_text (canonical.Long _) = codes "record data too long"
canonical_error_text canonical.UnknownNames = codes "names in record data not known"
