-- Where the labels of a name are.
use Rattle.std.specs.Prelude.{◌≡◌, ◌⊎◌, ℕ, ◌≤◌, ◌<◌, ◌-◌, List, length, take}
use Rattle.domain_label.specs.Wire.{wire, labels_in, IsAbsoluteWire}

-- The offset of the label of the name o with `index` labels before it was given (0). Otherwise nothing changed: there
-- is no such label (10), or o is no absolute name (9).
abbrev pub GivesOffset : List ℕ → ℕ → ℕ → ℕ → ℕ → Type 0
GivesOffset o index status old new =
    ((status ≡ 0) × IsAbsoluteWire o × (index < length (labels_in o))
    × (new ≡ length (wire (take index (labels_in o)))))
    ⊎ ((status ≡ 10) × IsAbsoluteWire o × (length (labels_in o) ≤ index) × (new ≡ old))
    ⊎ ((status ≡ 9) × (IsAbsoluteWire o → ⊥) × (new ≡ old))

-- The same with `index` labels after it.
abbrev pub GivesOffsetBack : List ℕ → ℕ → ℕ → ℕ → ℕ → Type 0
GivesOffsetBack o index status old new =
    ((status ≡ 0) × IsAbsoluteWire o × (index < length (labels_in o))
    × (new ≡ length (wire (take (length (labels_in o) - index - 1) (labels_in o)))))
    ⊎ ((status ≡ 10) × IsAbsoluteWire o × (length (labels_in o) ≤ index) × (new ≡ old))
    ⊎ ((status ≡ 9) × (IsAbsoluteWire o → ⊥) × (new ≡ old))
