-- How a name is to be written with compression (RFC 1035, 4.1.4), and what writing it leaves.
use Rattle.std.specs.Prelude.{◌≡◌, ◌⊎◌, ℕ, ◌≤◌, ◌<◌, List, length, take, drop}
use Rattle.domain_label.specs.Wire.{labels_in, IsAbsoluteWire}
use Rattle.domain_compress.specs.Planned.{remembered_in_table, WritesPointer, WritesFlat}
use Rattle.domain_buffer.specs.Plans.{IsTable, PutsName, NameDoesNotFit, more_of_table}

-- The name is to be written with a pointer (0) or without one (17); or the table is no table (16), or the name is no
-- absolute name (9). With any number but 0 nothing changed.
abbrev pub Plans : List ℕ → List ℕ → List ℕ → ℕ → ℕ → ℕ → ℕ → ℕ → Type 0
Plans t table name status old_begin begin old_offset offset =
    ((status ≡ 0) × IsTable table × IsAbsoluteWire name
    × WritesPointer t (remembered_in_table table) name begin offset)
    ⊎ ((status ≡ 17) × IsTable table × IsAbsoluteWire name
    × WritesFlat t (remembered_in_table table) name × (begin ≡ old_begin)
    × (offset ≡ old_offset))
    ⊎ ((status ≡ 16) × (IsTable table → ⊥) × (begin ≡ old_begin) × (offset ≡ old_offset))
    ⊎ ((status ≡ 9) × IsTable table × (IsAbsoluteWire name → ⊥) × (begin ≡ old_begin)
    × (offset ≡ old_offset))

-- The name was written after the first octets, and the offsets of its labels were added after the first offsets.
pub record PutsNameAndOffsets (o : List ℕ) (len : ℕ) (table : List ℕ) (count : ℕ) (name : List ℕ)
    (o' : List ℕ) (len' : ℕ) (table' : List ℕ) (count' : ℕ) : Type 0 where
  pub begin : ℕ
  pub writes : PutsName o len (take count table) name begin len' o'
  pub fits : count' ≤ length table
  pub offsets : take count' table' ≡ more_of_table (length table) (take count table) len
      (labels_in (take begin name))
  pub rest : drop count' table' ≡ drop count' table

-- Why a name isn't written: a length is too large (20), the table is no table (16), the name is no absolute name (9)
-- or doesn't fit (8).
abbrev pub RefusesName : List ℕ → ℕ → List ℕ → ℕ → List ℕ → ℕ → Type 0
RefusesName o len table count name status =
    ((status ≡ 20) × ((length o < len) ⊎ (length table < count)))
    ⊎ ((status ≡ 16) × (len ≤ length o) × (count ≤ length table) × (IsTable (take count table) → ⊥))
    ⊎ ((status ≡ 9) × (len ≤ length o) × (count ≤ length table) × IsTable (take count table)
    × (IsAbsoluteWire name → ⊥))
    ⊎ ((status ≡ 8) × (len ≤ length o) × (count ≤ length table) × IsTable (take count table)
    × IsAbsoluteWire name × NameDoesNotFit o len (take count table) name)

-- The name was written (0); or it wasn't, and nothing changed.
abbrev pub Appends : List ℕ → ℕ → List ℕ → ℕ → List ℕ → ℕ → List ℕ → ℕ → List ℕ → ℕ → Type 0
Appends o len table count name status o' len' table' count' =
    ((status ≡ 0) × (len ≤ length o) × (count ≤ length table) × IsTable (take count table)
    × IsAbsoluteWire name × PutsNameAndOffsets o len table count name o' len' table' count')
    ⊎ (RefusesName o len table count name status × (o' ≡ o) × (len' ≡ len) × (table' ≡ table)
    × (count' ≡ count))
