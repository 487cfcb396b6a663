-- The suffixes of a name by their first labels.
use Rattle.std.specs.Prelude.{◌≡◌, ℕ, ◌+◌, ◌*◌, ◌/◌, ◌%◌, ◌^◌, ◌<◌, List, [], ◌∷◌, ◌++◌, fold, length, slice_index, Bool, IsTrue}
use Rattle.domain_label.specs.Wire.{labels_in}
use Rattle.domain_rdata.specs.ReadBack.{StandsAt}

-- The first label; none where there is no label.
abbrev pub first_label : List (List ℕ) → List ℕ
first_label [] = []
first_label (l ∷ ls) = l

-- A number below 65,536 that labels share which are equal without case: of how many octets they have, and of each.
abbrev pub hash_step : ℕ → ℕ → ℕ
hash_step h c = (h * 8 % 2 ^ 64 + c % 32) % 2 ^ 64

abbrev pub label_hash : List ℕ → ℕ
label_hash l = fold hash_step (length l) l * 11400714819323198485 % 2 ^ 64 / 2 ^ 48

abbrev pub first_hash : List (List ℕ) → ℕ
first_hash ls = label_hash (first_label ls)

-- Where a hash is marked.
abbrev pub slot_of : ℕ → ℕ
slot_of h = h % 256

-- The hash of the first label is one that is marked.
abbrev pub IsMarked : List ℕ → List (List ℕ) → Type 0
IsMarked marks ls = slice_index marks (slot_of (first_hash ls)) ≡ 1

-- So is that of each suffix of the name but the root.
abbrev pub AreMarked : List ℕ → List ℕ → Type 0
AreMarked marks name = (xs ys : List (List ℕ)) → labels_in name ≡ xs ++ ys → 1 < length ys → IsMarked marks ys

-- b is true where a name stands at p whose first label isn't the root and has a marked hash.
abbrev pub LetsMarkedPass : List ℕ → List ℕ → ℕ → Bool → Type 0
LetsMarkedPass marks t p b =
    (ls : List (List ℕ)) → 0 < length (first_label ls) → IsMarked marks ls → StandsAt t p ls → IsTrue b
