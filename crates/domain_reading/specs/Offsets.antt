-- The table of the offsets of a name's labels.
use Rattle.std.specs.Prelude.{◌≡◌, ℕ, ◌+◌, ◌-◌, ◌<◌, ◌≤◌, if◌then◌else◌, nat_lt, List, [], ◌∷◌, length, slice_index, slice_range}
use Rattle.std.specs.List.{All}
use Rattle.domain_label.specs.Wire.{wire}

-- What an entry of the table means. Below 32768, it means that many octets after the base, the offset of the name's
-- first label when it was read. Otherwise it is 32768 more than an offset of the message.
abbrev pub entry_offset : ℕ → ℕ → ℕ
entry_offset base entry = if nat_lt entry 32768 then base + entry else entry - 32768

-- A whole label is at p, which may be the root.
abbrev pub IsLabelOffset : List ℕ → ℕ → Type 0
IsLabelOffset m p = (slice_index m p < 64) × (p + 1 + slice_index m p ≤ length m)

-- A whole label is at the offset of each entry.
abbrev pub AreLabelOffsets : List ℕ → ℕ → List ℕ → Type 0
AreLabelOffsets m base entries = All (λ e. IsLabelOffset m (entry_offset base e)) entries

-- the octets of the label at p
abbrev pub label_at : List ℕ → ℕ → List ℕ
label_at m p = slice_range m (p + 1) (p + 1 + slice_index m p)

-- the labels at the offsets of the entries
unfoldable pub labels_at_entries : List ℕ → ℕ → List ℕ → List (List ℕ)
labels_at_entries m base [] = []
labels_at_entries m base (e ∷ es) = label_at m (entry_offset base e) ∷ labels_at_entries m base es

-- the labels at the offsets of a table's entries that remain: of those up to `count`, from `dropped` on
abbrev pub table_labels : List ℕ → ℕ → List ℕ → ℕ → ℕ → List (List ℕ)
table_labels m base entries dropped count = labels_at_entries m base (slice_range entries dropped count)

-- A whole label is at the offset of each of these entries.
abbrev pub TableHasLabels : List ℕ → ℕ → List ℕ → ℕ → ℕ → Type 0
TableHasLabels m base entries dropped count = AreLabelOffsets m base (slice_range entries dropped count)

-- The `len` octets from `start` on are the wire format of these labels: they are contiguous.
abbrev pub AreContiguous : List ℕ → ℕ → ℕ → List (List ℕ) → Type 0
AreContiguous m start len ls = slice_range m start (start + len) ≡ wire ls
