-- How names begin and end.
use Rattle.std.specs.Prelude.{◌≡◌, ℕ, List, ◌++◌}
use Rattle.domain_label.specs.Lowercase.{lowercase_labels}

-- The labels xs are those of ys and then others, ignoring case.
abbrev pub StartsWith : List (List ℕ) → List (List ℕ) → Type 0
StartsWith xs ys = (rest : List (List ℕ)) × (lowercase_labels xs ≡ lowercase_labels ys ++ rest)

-- The labels xs are others and then those of ys, ignoring case.
abbrev pub EndsWith : List (List ℕ) → List (List ℕ) → Type 0
EndsWith xs ys = (front : List (List ℕ)) × (lowercase_labels xs ≡ front ++ lowercase_labels ys)
