-- Tables of all that a message has: a row of numbers for each question and record, and their names (RFC 1035, 4.1).
-- `m` is the message: the list of its octets.
use Rattle.std.specs.Prelude.{◌≡◌, ◌⊎◌, ℕ, true, false, suc, ◌+◌, ◌*◌, ◌≤◌, ◌<◌, List, [], ◌∷◌, ◌++◌, length, Option, Some, None}
use Rattle.domain_label.specs.Wire.{wire}
use Rattle.domain_reading.specs.Grammar.{Names}
use Rattle.domain_reading.specs.Faults.{NameFaultAt, Skips}
use Rattle.domain_reading.specs.declared.fault.NameFault.{NameFault}
use Rattle.domain_buffer.specs.Puts.{PutsAt}
use Rattle.domain_header.specs.Numbers.{number16}
use Rattle.domain_buffer.specs.Entries.{EntryAt, LacksParts}
use Rattle.domain_buffer.specs.declared.entry.Parts.{Parts}
use Rattle.domain_buffer.specs.declared.rows.Filled.{Filled}
use Rattle.domain_buffer.specs.declared.rows.RowFault.{RowFault}
use Rattle.domain_buffer.specs.declared.rows.RowFault.TheVariants.{Name, ShortInput, NoRoom}
use Rattle.domain_buffer.specs.declared.rows.Taken.{Taken}

-- how many questions and records the header counts, in all sections
abbrev pub entry_count : List ℕ → ℕ
entry_count m = number16 m 4 + number16 m 6 + number16 m 8 + number16 m 10

-- The entry with n entries before it is at p: as long as the header counts questions a question, and then a record.
abbrev pub PartsAt : List ℕ → ℕ → ℕ → Parts → Type 0
PartsAt m n p it =
    ((n < number16 m 4) × EntryAt m true p it) ⊎ ((number16 m 4 ≤ n) × EntryAt m false p it)

-- Of the entry with n entries before it, the parts after a name that is at p are missing: the message ends in them.
abbrev pub NoPartsAt : List ℕ → ℕ → ℕ → Type 0
NoPartsAt m n p =
    ((n < number16 m 4) × (after : ℕ) × Skips m p after × LacksParts m true after)
    ⊎ ((number16 m 4 ≤ n) × (after : ℕ) × Skips m p after × LacksParts m false after)

-- The row of an entry whose name has `len` octets, from the offset `at` on in the buffer of names.
abbrev pub row : ℕ → ℕ → Parts → List ℕ
row at len it = at ∷ len ∷ it.rtype ∷ it.class ∷ it.ttl ∷ it.data_at ∷ it.data_len ∷ it.end ∷ []

-- The first n entries that the header counts are there, with names of at most k pointers: these are their rows and
-- their names, one after the other, and the next entry is at p.
pub data Tabled (k : ℕ) (m : List ℕ) : ℕ → List ℕ → List ℕ → ℕ → Type 0 where
  header : 12 ≤ length m → Tabled k m 0 [] [] 12
  entry : {n p : ℕ} {rows names : List ℕ} {ls : List (List ℕ)} {it : Parts}
      → Tabled k m n rows names p → n < entry_count m → Names k m p ls → PartsAt m n p it
      → Tabled k m (suc n) (rows ++ row (length names) (length (wire ls)) it)
      (names ++ wire ls) it.end

-- The entry at p, with n before it, can't be put after them, and this is why: no name is there, or the message ends in
-- what follows it, or its row doesn't fit, or its name doesn't.
pub data NotTaken (k : ℕ) (m : List ℕ) (n p rows_room names_len names_room : ℕ) (why : RowFault)
    : Type 0 where
  no_name : {f : NameFault} → NameFaultAt k m p f → why ≡ Name f
      → NotTaken k m n p rows_room names_len names_room why
  no_parts : {ls : List (List ℕ)} → Names k m p ls → NoPartsAt m n p → why ≡ ShortInput
      → NotTaken k m n p rows_room names_len names_room why
  no_room : {ls : List (List ℕ)} {it : Parts} → Names k m p ls → PartsAt m n p it
      → (rows_room < 8 * n + 8) ⊎ (names_room < names_len + length (wire ls)) → why ≡ NoRoom
      → NotTaken k m n p rows_room names_len names_room why

-- The next entry can't be put after those that were taken, into these rows and names.
abbrev pub NotTakenAfter : ℕ → List ℕ → Taken → List ℕ → List ℕ → RowFault → Type 0
NotTakenAfter k m taken rows names why =
    NotTaken k m taken.count taken.offset (length rows) taken.names (length names) why

-- The next entry was put into the table, after those that were taken.
pub record AddsRow (k : ℕ) (m : List ℕ) (old : Taken) (old_rows rows old_names names : List ℕ)
    (new : Taken) : Type 0 where
  pub labels : List (List ℕ)
  pub parts : Parts
  pub name : Names k m old.offset labels
  pub parts_at : PartsAt m old.count old.offset parts
  pub count : new.count ≡ old.count + 1
  pub offset : new.offset ≡ parts.end
  pub len : new.names ≡ old.names + length (wire labels)
  pub row_fits : 8 * old.count + 8 ≤ length old_rows
  pub name_fits : old.names + length (wire labels) ≤ length old_names
  pub row_put : PutsAt (8 * old.count) (row old.names (length (wire labels)) parts) old_rows rows
  pub name_put : PutsAt old.names (wire labels) old_names names

-- The first n entries were put into rows and names, and nothing else there was changed.
pub record HoldsRows (k : ℕ) (m : List ℕ) (n p len : ℕ)
    (old_rows rows old_names names : List ℕ) : Type 0 where
  pub numbers : List ℕ
  pub octets : List ℕ
  pub tabled : Tabled k m n numbers octets p
  pub size : len ≡ length octets
  pub rows_put : PutsAt 0 numbers old_rows rows
  pub names_put : PutsAt 0 octets old_names names

-- So were the entries that were taken.
abbrev pub HoldsAll : ℕ → List ℕ → Taken → List ℕ → List ℕ → List ℕ → List ℕ → Type 0
HoldsAll k m taken old_rows rows old_names names =
    HoldsRows k m taken.count taken.offset taken.names old_rows rows old_names names

-- After n entries all are there that the header counts, or the next one can't be put after them, and why.
abbrev pub Stops : ℕ → List ℕ → ℕ → ℕ → ℕ → ℕ → ℕ → Option RowFault → Type 0
Stops k m n p rows_room names_len names_room told =
    ((n ≡ entry_count m) × (told ≡ None))
    ⊎ ((n < entry_count m) × (why : RowFault) × (told ≡ Some why)
    × NotTaken k m n p rows_room names_len names_room why)

-- After those that were taken all are there, or the next one can't be put after them, into these rows and names.
abbrev pub StopsAfter : ℕ → List ℕ → List ℕ → List ℕ → Filled → Type 0
StopsAfter k m rows names filled =
    Stops k m filled.taken.count filled.taken.offset (length rows) filled.taken.names (length names)
    filled.fault
