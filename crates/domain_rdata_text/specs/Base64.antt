-- Octets in base64 (RFC 4648, 4).
use Rattle.std.specs.Prelude.{ℕ, List, [], ◌∷◌, Option}
use Rattle.std.specs.List.{flat_map}
use Rattle.std.specs.Result.{result_ok}
use Rattle.base64.specs.Engines.{standard}
use Rattle.base64.specs.GeneralPurpose.{encode_of, decode_of}
use Rattle.domain_rdata_text.specs.Words.{WordAt}

-- octets in base64, with padding
unfoldable pub base64_text : List ℕ → List ℕ
base64_text os = encode_of standard os

-- the words of octets: one, or none where there is no octet
abbrev pub base64_in_words : List ℕ → List (List ℕ)
base64_in_words [] = []
base64_in_words (c ∷ os) = base64_text (c ∷ os) ∷ []

-- the octets that a text in base64 is of: bits after the last octet are zeros, and the padding is there
unfoldable pub read_base64 : List ℕ → Option (List ℕ)
read_base64 text = result_ok (decode_of standard text)

-- words without the white space between them, which may be within such a text (RFC 4034, 2.2)
abbrev pub together : List WordAt → List ℕ
together ws = flat_map (λ w. w.octets) ws
