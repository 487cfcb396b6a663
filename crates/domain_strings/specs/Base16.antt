-- Octets in hexadecimal digits (RFC 4648, 8).
use Rattle.std.specs.Prelude.{ℕ, ◌/◌, ◌%◌, List, [], ◌∷◌}
use Rattle.std.specs.List.{flat_map}
use Rattle.domain_label.specs.Hex.{hex_digit}

-- two digits, the high one first
abbrev pub base16_octet : ℕ → List ℕ
base16_octet n = hex_digit (n / 16) ∷ hex_digit (n % 16) ∷ []

-- those of each octet
abbrev pub base16_text : List ℕ → List ℕ
base16_text octets = flat_map base16_octet octets
