-- What is to be written for a name, where the offsets are a table of offsets.
use Rattle.std.specs.Prelude.{◌≡◌, ℕ, ◌+◌, ◌≤◌, ◌<◌, List, ◌++◌, length, take, map}
use Rattle.domain_label.specs.Wire.{wire, labels_in, IsWire}
use Rattle.domain_compress.specs.Compressing.{RememberedLabel, pointer_to, Compresses}
use Rattle.domain_compress.specs.declared.plan.Beginning.{Beginning}

-- an offset of a table: where the name ends that it was written for isn't known
abbrev pub remembered_at_offset : ℕ → RememberedLabel
remembered_at_offset offset = record { at = offset; end = 0 }

-- the offsets of a table, as remembered labels
abbrev pub remembered_in_table : List ℕ → List RememberedLabel
remembered_in_table = map remembered_at_offset

-- the table of the offsets
abbrev pub offsets : List RememberedLabel → List ℕ
offsets = map (λ w. w.at)

-- After t the first octets of the name, up to begin, and a pointer to the offset are to be written for it.
pub record WritesPointer (t : List ℕ) (ws : List RememberedLabel) (name : List ℕ) (begin offset : ℕ) : Type 0 where
  pub labels : List (List ℕ)
  pub compresses : Compresses t ws (labels_in name) labels (take begin name ++ pointer_to offset)
  pub spelled : labels_in (take begin name) ≡ labels
  pub wire_form : IsWire (take begin name)
  pub inside : begin + 2 ≤ length name
  pub low : offset < 16384

-- So they are, for a beginning of the name.
abbrev pub WritesBeginning : List ℕ → List RememberedLabel → List ℕ → Beginning → Type 0
WritesBeginning t ws name b = WritesPointer t ws name b.begin b.offset

-- It is to be written with no pointer.
abbrev pub WritesFlat : List ℕ → List RememberedLabel → List ℕ → Type 0
WritesFlat t ws name = Compresses t ws (labels_in name) (labels_in name) (wire (labels_in name))
