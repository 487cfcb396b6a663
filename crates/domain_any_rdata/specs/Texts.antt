-- The text of record data: its fields by the table of types, with a space between two words (RFC 1035, 5.1), or its
-- octets in the form for unknown types, with no name compressed (RFC 3597, 4 and 5).
use Rattle.std.specs.Prelude.{◌≡◌, ℕ, is_some, Bool, true, false, nat_le, if◌then◌else◌, List, [], ◌∷◌, ◌++◌, length, drop, Option, Some, None}
use Rattle.domain_descriptor.specs.Rdatas.{rdata_kinds}
use Rattle.domain_descriptor.specs.Table.{known_fields}
use Rattle.domain_descriptor.specs.declared.kind.FieldKind.{FieldKind}
use Rattle.domain_descriptor.specs.declared.rdata.Rdata.{Rdata}
use Rattle.domain_fields.specs.Parts.{Part, a_name, no_name, parts_octets}
use Rattle.domain_rdata.specs.AnyData.{unknown_text}
use Rattle.domain_field_text.specs.FieldTexts.{lead, field_octets_text}
use Rattle.domain_field_text.specs.Names.{zone_name}
use Rattle.domain_any_rdata.specs.Parts.{parts_at, raw_octets, rdata_parts}

-- the text of a field: a name as a zone has it, or what its octets are; its first word is the first of data, or has a
-- space before it
abbrev pub part_text : Bool → FieldKind → Part → Option (List ℕ)
part_text first kind (a_name ls) = Some (lead first ++ zone_name ls)
part_text first kind (no_name octets) = field_octets_text first kind octets

-- Whether the field has a text, first or not.
abbrev pub IsTold : FieldKind → Part → Bool → Type 0
IsTold kind part told = (first : Bool) → is_some (part_text first kind part) ≡ told

-- a text before another, if there are both
abbrev pub both_texts : Option (List ℕ) → Option (List ℕ) → Option (List ℕ)
both_texts None b = None
both_texts (Some a) None = None
both_texts (Some a) (Some b) = Some (a ++ b)

-- a text, or nothing where there is none
abbrev pub text_or_nothing : Option (List ℕ) → List ℕ
text_or_nothing None = []
text_or_nothing (Some text) = text

-- the texts of fields one after another, if each has one
abbrev pub parts_text : Bool → List FieldKind → List Part → Option (List ℕ)
parts_text first [] parts = Some []
parts_text first (kind ∷ kinds) [] = Some []
parts_text first (kind ∷ kinds) (part ∷ parts) = both_texts (part_text first kind part) (parts_text false kinds parts)

-- that text, or else the octets of the data
abbrev pub text_or_octets : Option (List ℕ) → List ℕ → List ℕ
text_or_octets None octets = unknown_text octets
text_or_octets (Some text) octets = text

-- The octets that data is shown as where it has no other text: those with no name compressed, since a pointer leads
-- nowhere outside of its message (RFC 3597, 4). No record has data of more than 65,535 octets (RFC 1035, 3.2.1): where
-- they would be more, they are those of the message.
abbrev pub plain_octets : List ℕ → List ℕ → List ℕ
plain_octets whole raw = if nat_le (length whole) 65535 then whole else raw

-- the text of data with fields of these kinds, which are these parts and have these octets in the message
abbrev pub fields_text : List FieldKind → List Part → List ℕ → List ℕ
fields_text kinds parts raw = text_or_octets (parts_text true kinds parts) (plain_octets (parts_octets false parts) raw)

-- the text of data that was read
abbrev pub rdata_text : Rdata → List ℕ
rdata_text it = fields_text (rdata_kinds it) (rdata_parts it) (raw_octets it)

-- the text of the data of a type in a class from p to the end of m
abbrev pub shown_data : ℕ → ℕ → List ℕ → ℕ → List ℕ
shown_data rtype class m p = fields_text (known_fields rtype class) (parts_at (known_fields rtype class) m p) (drop p m)
