-- Records whose data have names, which are written with compression (RFC 1035, 4.1.4). `o` is the list of the octets,
-- `b` the builder beside it, `f` the fields of the data.
use Rattle.std.specs.Prelude.{◌≡◌, ◌⊎◌, ℕ, ◌+◌, ◌≤◌, ◌<◌, Bool, true, List, [], ◌++◌, length, take, MatchBool}
use Rattle.std.specs.Int.{w16, to_be_bytes}
use Rattle.domain_label.specs.Wire.{labels_in, IsAbsoluteWire}
use Rattle.domain_message.specs.declared.section.Section.{Section}
use Rattle.domain_message_builder.specs.Contents.{blank_header, RecordHead}
use Rattle.domain_message_builder.specs.Pushes.{PushesRecord}
use Rattle.domain_rdata.specs.ReadBack.{StandsAt}
use Rattle.domain_rdata.specs.RecordData.{NameOctets}
use Rattle.domain_message.specs.Composing.{before_length}
use Rattle.domain_reading.specs.Grammar.{EncodingEnds}
use Rattle.domain_buffer.specs.Puts.{PutsAt}
use Rattle.domain_buffer.specs.Plans.{Spells, more_of_table}
use Rattle.domain_buffer.specs.Data.{Fields, found_fields}
use Rattle.domain_buffer.specs.Builders.{builder_state, table_of, headed_by_wire, headed_by, entered, octets_after_owner, IsUsable}
use Rattle.domain_buffer.specs.declared.builder.Builder.{Builder}
use Rattle.domain_buffer.specs.declared.builder.Head.{Head}
use Rattle.domain_buffer.specs.declared.data.NamedData.{NamedData}
use Rattle.domain_buffer.specs.declared.named.RecordEnd.{RecordEnd}

-- what is written for the names of data: how many octets of each, and all that stand for it
pub record SpelledNames : Type 0 where
  pub first_begin : ℕ
  pub first : List ℕ
  pub second_begin : ℕ
  pub second : List ℕ

-- After t these octets are to be written for the name, as `Spells` has it, or nothing for nothing.
abbrev pub SpellsAny : List ℕ → List ℕ → List ℕ → ℕ → List ℕ → Type 0
SpellsAny t table name begin octets =
    ((name ≡ []) × (begin ≡ 0) × (octets ≡ []))
    ⊎ (IsAbsoluteWire name × Spells t table name begin octets)

-- After t this is to be written for the names of the data.
pub record SpellsNames (t table : List ℕ) (f : Fields) (s : SpelledNames) : Type 0 where
  pub first : Spells t table f.first s.first_begin s.first
  pub second : SpellsAny t table f.second s.second_begin s.second

-- the data as they are written: the numbers as they are, and for each name what is written for it
abbrev pub written_data : Fields → SpelledNames → List ℕ
written_data f s = f.before ++ (s.first ++ (s.second ++ f.after))

-- how many octets a head and the data have, where this is written for the names
abbrev pub len_after_owner : (head : List ℕ) → NamedData → (first second : List ℕ) → ℕ
len_after_owner head d first second =
    length head + (length d.before.now + (length first + (length second + length d.after.now)))

-- A head and the data were put into the buffer from p on, where this is written for the names.
abbrev pub PutsData : ℕ → (head : List ℕ) → NamedData → (first second : List ℕ) → List ℕ → List ℕ → Type 0
PutsData p head d first second old new =
    PutsAt p (head ++ (d.before.now ++ (first ++ (second ++ d.after.now)))) old new

-- the table, and the offsets of the labels that are written of the names, in data that begin at p
abbrev pub names_remembered : List ℕ → Fields → SpelledNames → ℕ → List ℕ
names_remembered table f s p =
    more_of_table 128
    (more_of_table 128 table (p + length f.before) (labels_in (take s.first_begin f.first)))
    (p + length f.before + length s.first) (labels_in (take s.second_begin f.second))

-- the table, and the offsets of the labels that are written of the owner's name
abbrev pub owner_remembered : Builder → List ℕ → ℕ → List ℕ
owner_remembered b owner begin =
    more_of_table 128 (table_of b) b.len (labels_in (take begin owner))

-- What is to be written for the names of a record after the message: for the owner's name, and for those of the data
-- over the message and the owner's name as it is written.
pub record SpellsRecord (o : List ℕ) (b : Builder) (owner : List ℕ) (f : Fields) (begin : ℕ)
    (named : List ℕ) (s : SpelledNames) : Type 0 where
  pub owner_spelled : Spells (take b.len o) (table_of b) owner begin named
  pub names_spelled : SpellsNames (take b.len o ++ named) (owner_remembered b owner begin) f s

-- After the message the record was written so; and the offsets of the labels of all its names are remembered.
pub record EntersNamed (o : List ℕ) (b : Builder) (owner : List ℕ) (head : RecordHead) (f : Fields)
    (o' : List ℕ) (b' : Builder) : Type 0 where
  pub begin : ℕ
  pub named : List ℕ
  pub names : SpelledNames
  pub spells : SpellsRecord o b owner f begin named names
  pub puts : PutsAt b.len (named ++ octets_after_owner head (written_data f names)) o o'
  pub ends : b'.len ≡ b.len + length (named ++ octets_after_owner head (written_data f names))
  pub within : b'.len ≤ b.limit
  pub few : b'.table_len ≤ 128
  pub remembers : table_of b' ≡ names_remembered (owner_remembered b owner begin) f names
      (b.len + length named + 10)

-- What is to be written exceeds the limit: already the owner's name and ten octets, or the whole record.
abbrev pub NamedTooBig : List ℕ → Builder → List ℕ → Fields → Type 0
NamedTooBig o b owner f =
    ((begin : ℕ) × (named : List ℕ) × Spells (take b.len o) (table_of b) owner begin named
    × (b.limit < b.len + length named + 10))
    ⊎ ((begin : ℕ) × (named : List ℕ) × (names : SpelledNames)
    × SpellsRecord o b owner f begin named names
    × (b.limit < b.len + length named + 10 + length (written_data f names)))

-- These octets after the first ones of o, up to start, within the limit, end a record whose owner's name ends before
-- start. They end at end, and the first offsets of the table, so many, are those that are remembered then.
pub record WritesAfterOwner (o : List ℕ) (start limit : ℕ) (table before : List ℕ) (f : Fields)
    (end count : ℕ) (o' table' : List ℕ) : Type 0 where
  pub names : SpelledNames
  pub spells : SpellsNames (take start o) table f names
  pub puts : PutsAt start
      (before ++ (to_be_bytes w16 (length (written_data f names)) ++ written_data f names)) o o'
  pub ends : end ≡ start + 10 + length (written_data f names)
  pub within : end ≤ limit
  pub few : count ≤ 128
  pub remembers : take count table' ≡ names_remembered table f names (start + 10)

-- They exceed the limit.
pub record HasNoRoomAfterOwner (o : List ℕ) (start limit : ℕ) (table : List ℕ)
    (f : Fields) : Type 0 where
  pub names : SpelledNames
  pub spells : SpellsNames (take start o) table f names
  pub long : limit < start + 10 + length (written_data f names)

-- What follows the owner's name was written so.
abbrev pub EndsRecord : List ℕ → (start limit : ℕ) → (table : List ℕ) → Head → NamedData → List ℕ → List ℕ → RecordEnd → Type 0
EndsRecord o start limit table head d o' table' e =
    WritesAfterOwner o start limit table (before_length head.rtype head.class head.ttl) (found_fields d) e.end e.count o' table'

-- It exceeds the limit, and the octets are unchanged.
abbrev pub EndExceedsLimit : List ℕ → (start limit : ℕ) → (table : List ℕ) → NamedData → List ℕ → Type 0
EndExceedsLimit o start limit table d o' =
    HasNoRoomAfterOwner o start limit table (found_fields d) × (o' ≡ o)

-- The record was written, or exceeds the limit, and nothing is changed.
abbrev pub EntersNamedIfRoom : (told : Bool) → List ℕ → Builder → (owner : List ℕ) → Head → NamedData → List ℕ → Builder → Type 0
EntersNamedIfRoom told o b owner head d o' b' =
    MatchBool told
    (EntersNamed o b owner (headed_by_wire owner head.rtype head.class head.ttl) (found_fields d) o' b' × (b' ≡ entered b b'))
    (NamedTooBig o b owner (found_fields d) × (o' ≡ o) × (b' ≡ b))

-- These octets of data, after those before: the numbers as they are, and for each name some that are read as an equal
-- one.
pub record SameNames (f : Fields) (before octets : List ℕ) : Type 0 where
  pub first : List ℕ
  pub first_read : NameOctets (labels_in f.first) true (before ++ f.before) first
  pub second : List ℕ
  pub second_read : ((f.second ≡ []) × (second ≡ []))
      ⊎ NameOctets (labels_in f.second) true (before ++ (f.before ++ first)) second
  pub all : octets ≡ f.before ++ (first ++ (second ++ f.after))

-- The data that begin at p in the message m have these names: one after the numbers, and a second where that ends.
pub record NamesStand (f : Fields) (m : List ℕ) (p : ℕ) : Type 0 where
  pub first : StandsAt m (p + length f.before) (labels_in f.first)
  pub end : ℕ
  pub first_ends : EncodingEnds m (p + length f.before) end
  pub second : (f.second ≡ []) ⊎ StandsAt m end (labels_in f.second)

-- Names that may stand in data after a blank header and octets are read there under any header, and before any octets.
abbrev pub NamesReadBack : Type 0
NamesReadBack =
    (f : Fields) (h before octets after : List ℕ) → length h ≡ 12
    → SameNames f (blank_header ++ before) octets
    → NamesStand f (h ++ before ++ octets ++ after) (length (h ++ before))

-- The record was pushed into the section.
pub record PushesNamed (section : Section) (owner : List ℕ) (head : RecordHead) (f : Fields)
    (o : List ℕ) (b : Builder) (o' : List ℕ) (b' : Builder) : Type 0 where
  pub enters : EntersNamed o b owner head f o' b'
  pub pushes : PushesRecord true section head (SameNames f) (builder_state o b) (builder_state o' b')
  pub usable : IsUsable o' b'

-- It was pushed with the fields as they were found, and with what its head says.
abbrev pub PushesFound : Section → List ℕ → Head → NamedData → List ℕ → Builder → List ℕ → Builder → Type 0
PushesFound section owner head d o b o' b' = PushesNamed section owner (headed_by owner head) (found_fields d) o b o' b'
