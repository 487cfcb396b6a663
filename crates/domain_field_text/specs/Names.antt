-- Names in the lines of records and questions, as the text of a zone has them (RFC 1035, 5.1).
use Rattle.std.specs.Prelude.{ℕ, Bool, cond, List, [], ◌∷◌, ◌++◌, ◌==◌, ◌||◌}
use Rattle.std.specs.List.{flat_map}
use Rattle.domain_label.specs.Text.{escaped_octet, or_dot}

-- what has a meaning in a zone, and none in a name by itself: semicolon, quote, parentheses, at and dollar
abbrev pub has_zone_meaning : ℕ → Bool
has_zone_meaning c = c == 59 || c == 34 || c == 40 || c == 41 || c == 64 || c == 36

-- An octet of a label: these take a backslash, and all others are as in a name by itself.
abbrev pub zone_octet : ℕ → List ℕ
zone_octet c = cond (has_zone_meaning c) (92 ∷ c ∷ []) (escaped_octet c)

-- a label and a dot after it; the root label is nothing
abbrev pub zone_label : List ℕ → List ℕ
zone_label [] = []
zone_label (c ∷ l) = flat_map zone_octet (c ∷ l) ++ 46 ∷ []

-- Each label with its dot; the root alone is a dot.
abbrev pub zone_name : List (List ℕ) → List ℕ
zone_name ls = or_dot (flat_map zone_label ls)
