-- What the program writes of a record.
use Rattle.std.specs.Prelude.{◌≡◌, ◌⊎◌, ℕ, Bool, true, false, cond, nat_eq, List, [], ◌∷◌, ◌++◌, drop}
use Rattle.std.specs.List.{list_any}
use Rattle.std.specs.Fmt.{decimal}
use Rattle.domain_wire.specs.declared.error.ParseError.{ParseError}
use Rattle.domain_header.specs.Tables.{class_text}
use Rattle.domain_header.specs.Rtypes.{rtype_text}
use Rattle.domain_message.specs.Entries.{RecordFields}
use Rattle.domain_message.specs.Texts.{spaced}
use Rattle.domain_message.specs.declared.section.Section.{Section}
use Rattle.domain_message.specs.declared.section.Section.TheVariants.{Answer, Authority, Additional}
use Rattle.domain_rdata.specs.AnyData.{unknown_text}
use Rattle.domain_descriptor.specs.Fields.{AreData}
use Rattle.domain_descriptor.specs.Table.{known_fields}
use Rattle.domain_any_rdata.specs.Reading.{NoDataAt}
use Rattle.domain_any_rdata.specs.Texts.{shown_data}
use Rattle.domain_lines.specs.Edns.{remark, edns_line, another_text, AreOptionLines}
use Rattle.domain_field_text.specs.Names.{zone_name}

-- the octets of the data
abbrev pub rdata_octets : RecordFields → List ℕ
rdata_octets it = drop it.start it.octets

-- The record has no data, and its class says that none is meant: NONE or ANY (RFC 2136, 2.4 and 2.5).
abbrev pub IsBare : RecordFields → Type 0
IsBare it = (it.header.rdlen ≡ 0) × ((it.header.class ≡ 254) ⊎ (it.header.class ≡ 255))

-- the line of a record without data: owner, TTL, class and type
abbrev pub bare_text : RecordFields → List ℕ
bare_text it = spaced (zone_name it.header.owner) (spaced (decimal it.header.ttl) (spaced (class_text it.header.class) (rtype_text it.header.rtype)))

-- the line of a record with this text of its data: the same, and the data
abbrev pub line_text : RecordFields → List ℕ → List ℕ
line_text it text = spaced (zone_name it.header.owner) (spaced (decimal it.header.ttl) (spaced (class_text it.header.class) (spaced (rtype_text it.header.rtype) text)))

-- the line of a record whose data can't be read: its octets in the form of RFC 3597, 5, and why
abbrev pub unread_text : RecordFields → ParseError → List ℕ
unread_text it why = line_text it (unknown_text (rdata_octets it) ++ remark why)

-- the line of a record with its data as its type and class have it
abbrev pub typed_text : RecordFields → List ℕ
typed_text it = line_text it (shown_data it.header.rtype it.header.class it.octets it.start)

-- Its data is there: exactly the fields of its type in its class.
abbrev pub HasData : RecordFields → Type 0
HasData it = AreData (known_fields it.header.rtype it.header.class) it.octets it.start

-- Its data can't be read, and why.
abbrev pub HasNoData : RecordFields → ParseError → Type 0
HasNoData it why = NoDataAt it.header.rtype it.header.class it.octets it.start why

-- The line of a record: with its data as its type and class have it, or with its octets and why they can't be read, or
-- with none.
pub data IsRecordLine (it : RecordFields) (line : List ℕ) : Type 0 where
  bare : IsBare it → line ≡ bare_text it → IsRecordLine it line
  typed : (IsBare it → ⊥) → HasData it → line ≡ typed_text it → IsRecordLine it line
  unread : (why : ParseError) → (IsBare it → ⊥) → HasNoData it why → line ≡ unread_text it why → IsRecordLine it line

-- whether the labels are those of the root: one label without octets
abbrev pub is_root : List (List ℕ) → Bool
is_root [] = false
is_root ([] ∷ []) = true
is_root ([] ∷ l ∷ ls) = false
is_root ((c ∷ l) ∷ ls) = false

-- whether the type is OPT and the owner the root
abbrev pub has_opt_head : RecordFields → Bool
has_opt_head it = cond (nat_eq it.header.rtype 41) (is_root it.header.owner) false

-- whether a record of a section is an OPT record: of type 41 and of the root, in the additional section (RFC 6891,
-- 6.1.1 and 6.1.2)
abbrev pub is_opt_in : Section → RecordFields → Bool
is_opt_in Answer it = false
is_opt_in Authority it = false
is_opt_in Additional it = has_opt_head it

-- The text of an OPT record: that it is another one, the line of what its header says, and the lines of its options.
abbrev pub IsOptText : ℕ → Bool → RecordFields → List ℕ → Type 0
IsOptText rcode another it text = (options : List ℕ) × AreOptionLines (rdata_octets it) options × (text ≡ another_text another ++ (edns_line it.header.ttl it.header.class rcode ++ (10 ∷ options)))

-- The text of a record of a section, after others of it: the lines of an OPT record, or the line of another.
pub data IsEntryText (rcode : ℕ) (s : Section) (before : List RecordFields) (it : RecordFields) (text : List ℕ) : Type 0 where
  opt : is_opt_in s it ≡ true → IsOptText rcode (list_any (is_opt_in s) before) it text → IsEntryText rcode s before it text
  plain : (line : List ℕ) → is_opt_in s it ≡ false → IsRecordLine it line → text ≡ line ++ 10 ∷ [] → IsEntryText rcode s before it text
