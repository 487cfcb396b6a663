-- The records of a section that have data of one type.
use Rattle.std.specs.Prelude.{◌≡◌, ℕ, ◌+◌, ◌<◌, ◌&&◌, ◌⊎◌, Bool, true, false, if◌then◌else◌, nat_eq, List, [], ◌∷◌, length, Option, Some, None, Result, Ok, Err}
use Rattle.octseq.specs.declared.octets.Octets.{Ghosts}
use Rattle.octseq.specs.declared.parse.Parser.{Parser}
use Rattle.octseq.specs.Parsing.{message, position}
use Rattle.domain_wire.specs.declared.error.ParseError.{ParseError}
use Rattle.domain_parsed.specs.declared.parsed.ParsedName.{ParsedName}
use Rattle.domain_parsed.specs.ParsedNames.{parsed_labels}
use Rattle.domain_header.specs.Values.{class_number, ttl_seconds}
use Rattle.domain_message.specs.Entries.{RecordFields, RecordAt, NoRecord}
use Rattle.domain_message.specs.RecordParts.{owner_of, class_of, ttl_of, data_of}
use Rattle.domain_message.specs.RecordModel.{record_fields}
use Rattle.domain_message.specs.Members.{ParseMembers}
use Rattle.domain_message.specs.Sections.{Run}
use Rattle.domain_message.specs.declared.record.ParsedRecord.{ParsedRecord}
use Rattle.domain_message.specs.declared.resource_record.Record.{Record}
use Rattle.domain_message.specs.declared.kept.RecordIter.{RecordIter}

-- Whether the class of a record is asked for: IN, or any.
abbrev pub has_class : Bool → RecordFields → Bool
has_class only_in it = if only_in then nat_eq it.header.class 1 else true

-- Whether a record is kept: its class is asked for, and its type has such data.
abbrev pub keeps : (ℕ → Bool) → Bool → RecordFields → Bool
keeps reads_type only_in it = has_class only_in it && reads_type it.header.rtype

-- None of these records is kept.
abbrev pub AreOthers : (RecordFields → Bool) → List RecordFields → Type 0
AreOthers keep [] = Unit {0}
AreOthers keep (x ∷ xs) = (keep x ≡ false) × AreOthers keep xs

-- The data of a record is this value, as its type reads it.
abbrev pub HasData : {V : Type 0} → (ℕ → List ℕ → ℕ → V → ℕ → Type 0) → RecordFields → V → Type 0
HasData Encodes it value = (e : ℕ) × Encodes it.header.rtype it.octets it.start value e

-- The record has the owner's name, type, class and TTL of a record of a message, and its data.
pub record IsMadeOf {O D V : Type 0} {g : Ghosts O} (type_of : D → ℕ) (seen : D → V) (Encodes : ℕ → List ℕ → ℕ → V → ℕ → Type 0) (it : RecordFields) (made : Record (ParsedName O g) D) : Type 0 where
  pub owner : parsed_labels (owner_of made) ≡ it.header.owner
  pub rtype : type_of (data_of made) ≡ it.header.rtype
  pub class : class_number (class_of made) ≡ it.header.class
  pub ttl : ttl_seconds (ttl_of made) ≡ it.header.ttl
  pub data_is : HasData Encodes it (seen (data_of made))

-- The data of a record has an error, as its type reads it, that is returned as e.
abbrev pub HasDataError : {E : Type 0} → (ParseError → E → Type 0)
    → (ℕ → List ℕ → ℕ → ParseError → Type 0) → RecordFields → E → Type 0
HasDataError Becomes Fails it e =
    (why : ParseError) × Fails it.header.rtype it.octets it.start why × Becomes why e

-- Of the n records remaining from p on, the first that is kept is `it`. Only records that aren't kept are before it, k
-- records remain after it, and it ends before q.
pub record FirstKept (keep : RecordFields → Bool) (m : List ℕ) (p n : ℕ) (it : RecordFields)
    (q k : ℕ) : Type 0 where
  pub before : List RecordFields
  pub others : AreOthers keep before
  pub offset : ℕ
  pub run : Run RecordAt m p before offset
  pub at : RecordAt m offset it q
  pub kept : keep it ≡ true
  pub count : n ≡ length before + 1 + k

-- All n records remaining from p on are present, and none is kept.
pub record NoneKept (keep : RecordFields → Bool) (m : List ℕ) (p n : ℕ) : Type 0 where
  pub before : List RecordFields
  pub others : AreOthers keep before
  pub offset : ℕ
  pub run : Run RecordAt m p before offset
  pub count : n ≡ length before

-- Of the n records remaining from p on, one is missing, for the reason `why`, and none before it is kept.
pub record MissesKept (keep : RecordFields → Bool) (m : List ℕ) (p n : ℕ)
    (why : ParseError) : Type 0 where
  pub before : List RecordFields
  pub others : AreOthers keep before
  pub offset : ℕ
  pub run : Run RecordAt m p before offset
  pub few : length before < n
  pub missing : NoRecord m offset why

-- Of the n records remaining from p on, one that is kept has data with an error, and none before it is kept.
pub record BreaksKept {E : Type 0} (keep : RecordFields → Bool) (Broken : RecordFields → E → Type 0)
    (m : List ℕ) (p n : ℕ) (e : E) : Type 0 where
  pub before : List RecordFields
  pub others : AreOthers keep before
  pub offset : ℕ
  pub run : Run RecordAt m p before offset
  pub few : length before < n
  pub it : RecordFields
  pub end : ℕ
  pub at : RecordAt m offset it end
  pub kept : keep it ≡ true
  pub broken : Broken it e

-- the octets that the iterator reads
abbrev pub kept_parser : {D E : Type 0} → RecordIter D E → Parser
kept_parser s = s.parser

-- how many records are left: none after an error
abbrev pub kept_left : {D E : Type 0} → RecordIter D E → ℕ
kept_left s = s.count

-- whether records of other classes than IN are skipped
abbrev pub kept_class : {D E : Type 0} → RecordIter D E → Bool
kept_class s = s.only_in

-- A call at p, with n records remaining, returned the first that is kept. Or it returned the error of the first that
-- is missing or whose data can't be read. Or it returned nothing, because none of the remaining records is kept. Then
-- the offset is q, and k records remain.
abbrev pub TakesKept : {W E : Type 0} → (RecordFields → Bool) → (RecordFields → W → Type 0)
    → (RecordFields → E → Type 0) → (ParseError → E → Type 0) → List ℕ → ℕ → ℕ → Option (Result W E)
    → ℕ → ℕ → Type 0
TakesKept keep Made Broken Becomes m p n None q k = NoneKept keep m p n × (k ≡ 0)
TakesKept keep Made Broken Becomes m p n (Some (Ok made)) q k =
    (it : RecordFields) × FirstKept keep m p n it q k × Made it made
TakesKept keep Made Broken Becomes m p n (Some (Err e)) q k =
    (k ≡ 0) × (((why : ParseError) × MissesKept keep m p n why × Becomes why e)
    ⊎ BreaksKept keep Broken m p n e)

-- A call of `next` took the next record that is kept.
abbrev pub GivesKept : {O D E V : Type 0} {g : Ghosts O} → (D → ℕ) → (D → V) → (ℕ → Bool)
    → (ℕ → List ℕ → ℕ → V → ℕ → Type 0) → (ℕ → List ℕ → ℕ → ParseError → Type 0)
    → (ParseError → E → Type 0) → RecordIter D E → Option (Result (Record (ParsedName O g) D) E)
    → RecordIter D E → Type 0
GivesKept {g = g} type_of seen reads_type Encodes Fails Becomes s r t =
    (message (kept_parser t) ≡ message (kept_parser s)) × (kept_class t ≡ kept_class s)
    × TakesKept (keeps reads_type (kept_class s)) (IsMadeOf {g = g} type_of seen Encodes)
    (HasDataError Becomes Fails) Becomes (message (kept_parser s)) (position (kept_parser s))
    (kept_left s) r (position (kept_parser t)) (kept_left t)

-- Where a record's data is read as values of `D`, `d` is `D.ParseRecordData`. The record's type has no such data.
abbrev pub HasOtherType : {D : Type 0} → ParseMembers D → ParsedRecord → Type 0
HasOtherType d it = d.reads_type (record_fields it).header.rtype ≡ false

-- The record was made of the one that was read, and has its data.
abbrev pub IsReadOf : {O D : Type 0} {g : Ghosts O} → ParseMembers D → ParsedRecord → Record (ParsedName O g) D → Type 0
IsReadOf {g = g} d it made = IsMadeOf {g = g} d.type_number d.model d.encodes (record_fields it) made

-- The data of the record that was read has an error, which is returned as e.
abbrev pub DataFails : {D E : Type 0} → (ParseError → E → Type 0) → ParseMembers D → ParsedRecord → E → Type 0
DataFails Becomes d it e = HasDataError Becomes d.fails_with (record_fields it) e

-- The class of the record is asked for, and its type has such data.
abbrev pub KeepsRecord : {D : Type 0} → ParseMembers D → Bool → ParsedRecord → Type 0
KeepsRecord d only_in it = keeps d.reads_type only_in (record_fields it) ≡ true

-- The class of the record isn't asked for, or its type has no such data.
abbrev pub PassesRecord : {D : Type 0} → ParseMembers D → Bool → ParsedRecord → Type 0
PassesRecord d only_in it = keeps d.reads_type only_in (record_fields it) ≡ false

-- The record is kept, and the other was made of it.
abbrev pub KeepsAs : {O D : Type 0} {g : Ghosts O} → ParseMembers D → Bool → ParsedRecord → Record (ParsedName O g) D → Type 0
KeepsAs d only_in it made = KeepsRecord d only_in it × IsReadOf d it made

-- The record is kept, and its data has an error, which is returned as e.
abbrev pub KeepsButFails : {D E : Type 0} → (ParseError → E → Type 0) → ParseMembers D → Bool → ParsedRecord → E → Type 0
KeepsButFails Becomes d only_in it e = KeepsRecord d only_in it × DataFails Becomes d it e

-- A call at a parser, with n records left, took the next that is kept, as `TakesKept` says; then the parser is the
-- other, and k are left.
abbrev pub TakesNext : {O D E : Type 0} {g : Ghosts O} → (ParseError → E → Type 0) → ParseMembers D → Bool → Parser → ℕ → Option (Result (Record (ParsedName O g) D) E) → Parser → ℕ → Type 0
TakesNext {g = g} Becomes d only_in from n r to k =
    TakesKept (keeps d.reads_type only_in) (IsMadeOf {g = g} d.type_number d.model d.encodes)
    (HasDataError Becomes d.fails_with) Becomes (message from) (position from) n r (position to) k
