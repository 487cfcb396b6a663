-- A name that is written with compression (RFC 1035, 4.1.4), over a table of offsets.
use Rattle.std.specs.Prelude.{◌≡◌, ℕ, ◌+◌, ◌≤◌, ◌<◌, List, ◌++◌, length, take}
use Rattle.std.specs.List.{All}
use Rattle.domain_label.specs.Wire.{labels_in, IsWire}
use Rattle.domain_compress.specs.Compressing.{Compresses, remembered_from}
use Rattle.domain_compress.specs.Planned.{remembered_in_table, offsets}
use Rattle.domain_buffer.specs.Puts.{PutsAt}
use Rattle.domain_buffer.specs.declared.plan.Written.{Written}

-- At most 128 offsets to which a pointer can lead.
abbrev pub IsTable : List ℕ → Type 0
IsTable table = (length table ≤ 128) × All (λ p. p < 16384) table

-- After t these octets are to be written for the name: its labels up to begin, and a pointer where begin isn't its
-- end.
pub record Spells (t table name : List ℕ) (begin : ℕ) (octets : List ℕ) : Type 0 where
  pub compresses : Compresses t (remembered_in_table table) (labels_in name)
      (labels_in (take begin name)) octets
  pub wire_form : IsWire (take begin name)
  pub inside : begin ≤ length name

-- After the first octets of o, up to start, the name was written: its labels up to begin, and a pointer where begin
-- isn't its end. What was written ends at end, and the octets after it are unchanged.
pub record PutsName (o : List ℕ) (start : ℕ) (table name : List ℕ) (begin end : ℕ)
    (o' : List ℕ) : Type 0 where
  pub octets : List ℕ
  pub compresses : Compresses (take start o) (remembered_in_table table) (labels_in name)
      (labels_in (take begin name)) octets
  pub wire_form : IsWire (take begin name)
  pub inside : begin ≤ length name
  pub ends : end ≡ start + length octets
  pub fits : end ≤ length o
  pub puts : PutsAt start octets o o'

-- What is to be written for the name after the first octets of o, up to start, ends past o.
pub record NameDoesNotFit (o : List ℕ) (start : ℕ) (table name : List ℕ) : Type 0 where
  pub labels : List (List ℕ)
  pub octets : List ℕ
  pub compresses : Compresses (take start o) (remembered_in_table table)
      (labels_in name) labels octets
  pub long : length o < start + length octets

-- The table, and the offsets of these labels, written from start on, up to 128 in all and as many as there is room
-- for.
abbrev pub more_of_table : ℕ → List ℕ → ℕ → List (List ℕ) → List ℕ
more_of_table room table start labels =
    take room (take 128 (table ++ offsets (remembered_from start start labels)))

-- The name was written so.
abbrev pub WritesAs : (o : List ℕ) → (start : ℕ) → (table name o' : List ℕ) → Written → Type 0
WritesAs o start table name o' w = PutsName o start table name w.begin w.end o'

-- It ends past the octets, and these are unchanged.
abbrev pub NameExceedsRoom : (o : List ℕ) → (start : ℕ) → (table name o' : List ℕ) → Type 0
NameExceedsRoom o start table name o' = NameDoesNotFit o start table name × (o' ≡ o)

-- The offsets of these labels, written from start on, came after the first count ones of the table, and so many are
-- there.
abbrev pub AddsOffsets : (count : ℕ) → (table : List ℕ) → (start : ℕ) → (labels : List ℕ) → (told : ℕ) → (table' : List ℕ) → Type 0
AddsOffsets count table start labels told table' =
    take told table' ≡ more_of_table (length table) (take count table) start (labels_in labels)
