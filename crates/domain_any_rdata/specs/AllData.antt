-- What contracts see of record data of any type.
use Rattle.std.specs.Prelude.{ℕ, Bool, true, ◌&&◌, List, Option, Some, None, if◌then◌else◌, is_some}
use Rattle.domain_descriptor.specs.Rdatas.{rdata_type, rdata_class, IsRdata}
use Rattle.domain_descriptor.specs.Table.{fields_in_class}
use Rattle.domain_descriptor.specs.declared.rdata.Rdata.{Rdata}
use Rattle.domain_rdata.specs.Rtypes.{has_lowercase_names}
use Rattle.domain_fields.specs.Parts.{Part, parts_octets}
use Rattle.domain_any_rdata.specs.Parts.{rdata_parts}
use Rattle.domain_any_rdata.specs.declared.all.AllRecordData.{AllRecordData}

-- the data as `domain_descriptor` has it
abbrev pub data_of : AllRecordData → Rdata
data_of it = it.rdata

-- the type of the record
abbrev pub data_type : AllRecordData → ℕ
data_type it = rdata_type it.rdata

-- the class of the record
abbrev pub data_class : AllRecordData → ℕ
data_class it = rdata_class it.rdata

-- its fields as parts, in their order
abbrev pub data_parts : AllRecordData → List Part
data_parts it = rdata_parts it.rdata

-- what is seen of data of a type: its class, and its fields as parts
abbrev pub SeenData : Type 0
SeenData = ℕ × List Part

-- what is seen of this data
abbrev pub seen_data : AllRecordData → SeenData
seen_data it = (data_class it, data_parts it)

-- It is of this type and class, and from p to the end of m.
abbrev pub IsAllData : ℕ → ℕ → List ℕ → ℕ → AllRecordData → Type 0
IsAllData rtype class m p it = IsRdata rtype class m p it.rdata

-- whether it is known which fields data of a type in a class has
abbrev pub are_fields_known : ℕ → ℕ → Bool
are_fields_known rtype class = is_some (fields_in_class rtype class)

-- whether it is known of this data
abbrev pub is_known_data : AllRecordData → Bool
is_known_data it = are_fields_known (data_type it) (data_class it)

-- the octets of data of a type in a class with all names in lowercase, if it is known which octets are names
abbrev pub lowered_octets : ℕ → ℕ → List Part → Option (List ℕ)
lowered_octets rtype class parts = if are_fields_known rtype class then Some (parts_octets true parts) else None

-- the octets of this data with all names in lowercase, if it is known which octets are names
abbrev pub known_form : AllRecordData → Option (List ℕ)
known_form it = lowered_octets (data_type it) (data_class it) (data_parts it)

-- whether the canonical form has names in lowercase (RFC 4034, 6.2; RFC 6840, 5.1)
abbrev pub has_lowered_names : AllRecordData → Bool
has_lowered_names it = is_known_data it && has_lowercase_names (data_type it)
