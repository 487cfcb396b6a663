-- The label that has a hash: the first one of the owner of an NSEC3 record (RFC 5155, 3).
use Rattle.std.specs.Prelude.{◌≡◌, ℕ, ◌<◌, List, length, slice_index}
use Rattle.std.specs.Char.{to_ascii_lowercase}
use Rattle.std.specs.List.{AllByRecursion}
use Rattle.domain_field_text.specs.Base32.{base32hex_digit, base32hex_text}
use Rattle.domain_label.specs.Lowercase.{lowercase}

-- These are 20 octets, as SHA-1 makes them.
abbrev pub IsHash : List ℕ → Type 0
IsHash h = (length h ≡ 20) × AllByRecursion (λ o. o < 256) h

-- The label is the hash in base32hex without padding (RFC 4648, 7), in upper or lower case.
abbrev pub IsLabelOf : List ℕ → List ℕ → Type 0
IsLabelOf label hash = lowercase label ≡ base32hex_text hash

-- The octet c is the digit of the number n, in either case.
abbrev pub IsDigitOf : ℕ → ℕ → Type 0
IsDigitOf c n = (n < 32) × (base32hex_digit n ≡ to_ascii_lowercase c)

-- Each octet of a label is the digit of the number at its place.
abbrev pub AreValues : List ℕ → List ℕ → Type 0
AreValues label values =
    (length values ≡ 32) × ((k : ℕ) → k < 32 → IsDigitOf (slice_index label k) (slice_index values k))
