-- The offsets of an uncompressed name's labels.
use Rattle.std.specs.Prelude.{ℕ, ◌+◌, List, [], ◌∷◌, length}
use Rattle.domain_label.specs.Wire.{labels_in}

-- The offsets of labels that come one after the other from p on, each with its length octet.
abbrev pub label_starts : ℕ → List (List ℕ) → List ℕ
label_starts p [] = []
label_starts p (l ∷ ls) = p ∷ label_starts (p + 1 + length l) ls

-- the offsets of the labels of a wire format
abbrev pub starts_in : List ℕ → List ℕ
starts_in o = label_starts 0 (labels_in o)
