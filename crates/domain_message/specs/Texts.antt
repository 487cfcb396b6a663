-- Questions and records in presentation format (RFC 1035, 5.1): fields with a space between.
use Rattle.std.specs.Prelude.{ℕ, List, [], ◌∷◌, ◌++◌}
use Rattle.std.specs.Fmt.{decimal}
use Rattle.domain_label.specs.Text.{text_with_final_dot}
use Rattle.domain_header.specs.Tables.{class_text}
use Rattle.domain_header.specs.Rtypes.{rtype_text}

-- a text, a space, and a text
abbrev pub spaced : List ℕ → List ℕ → List ℕ
spaced a b = a ++ (32 ∷ b)

-- name, class and type
abbrev pub question_text : List (List ℕ) → ℕ → ℕ → List ℕ
question_text name class rtype =
    spaced (text_with_final_dot name) (spaced (class_text class) (rtype_text rtype))

-- the owner's name, TTL, class and type, and the text of the data
abbrev pub record_text : List (List ℕ) → ℕ → ℕ → ℕ → List ℕ → List ℕ
record_text owner ttl class rtype text =
    spaced (text_with_final_dot owner) (spaced (decimal ttl)
    (spaced (class_text class) (spaced (rtype_text rtype) text)))

-- the same up to the space before the data
abbrev pub text_before_data : List (List ℕ) → ℕ → ℕ → ℕ → List ℕ
text_before_data owner ttl class rtype = record_text owner ttl class rtype []
