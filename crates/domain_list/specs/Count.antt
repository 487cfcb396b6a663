-- How many labels names have.
use Rattle.std.specs.Prelude.{ℕ, List, [], ◌∷◌, length, if◌then◌else◌}
use Rattle.std.specs.Str.{bytes_eq}

-- the labels except the root
abbrev pub but_root : List (List ℕ) → List (List ℕ)
but_root [] = []
but_root ([] ∷ ls) = but_root ls
but_root ((c ∷ l) ∷ ls) = (c ∷ l) ∷ but_root ls

-- the labels except a first `*`
abbrev pub but_wildcard : List (List ℕ) → List (List ℕ)
but_wildcard [] = []
but_wildcard (l ∷ ls) = if bytes_eq l (42 ∷ []) then ls else (l ∷ ls)

-- The labels field of a signature counts neither the root nor a first `*` (RFC 4034, 3.1.3).
abbrev pub rrsig_labels : List (List ℕ) → ℕ
rrsig_labels ls = length (but_root (but_wildcard ls))
