-- What contracts see of record data that owns its octets.
use Rattle.std.specs.Prelude.{◌≡◌, ℕ, false, List, Option}
use Rattle.domain_descriptor.specs.Table.{known_fields}
use Rattle.domain_fields.specs.Parts.{Part, parts_octets}
use Rattle.domain_header.specs.Values.{class_number}
use Rattle.domain_rdata.specs.Rtypes.{rtype_number}
use Rattle.domain_any_rdata.specs.AllData.{data_type, data_class, data_parts, lowered_octets}
use Rattle.domain_any_rdata.specs.Keys.{canonical_key}
use Rattle.domain_any_rdata.specs.Parts.{parts_at}
use Rattle.domain_any_rdata.specs.declared.all.AllRecordData.{AllRecordData}
use Rattle.domain_any_rdata.specs.declared.owned.OwnedRecordData.{OwnedRecordData}

-- the type of the record
abbrev pub owned_type : OwnedRecordData → ℕ
owned_type it = rtype_number it.rtype

-- the class of the record
abbrev pub owned_class : OwnedRecordData → ℕ
owned_class it = class_number it.class

-- the octets, in which no name is compressed
abbrev pub uncompressed_data : OwnedRecordData → List ℕ
uncompressed_data it = it.octets.items

-- its fields as parts, in their order
abbrev pub owned_parts : OwnedRecordData → List Part
owned_parts it = parts_at (known_fields (owned_type it) (owned_class it)) (uncompressed_data it) 0

-- It has the type and the class of the data, its octets with no name compressed, and the same fields: names keep their
-- case.
pub record IsOwnedOf (it : AllRecordData) (made : OwnedRecordData) : Type 0 where
  pub rtype : owned_type made ≡ data_type it
  pub class : owned_class made ≡ data_class it
  pub octets : uncompressed_data made ≡ parts_octets false (data_parts it)
  pub parts : owned_parts made ≡ data_parts it

-- the octets of this data with all names in lowercase, if it is known which octets are names
abbrev pub owned_form : OwnedRecordData → Option (List ℕ)
owned_form it = lowered_octets (owned_type it) (owned_class it) (owned_parts it)

-- what this data is compared by
abbrev pub owned_key : OwnedRecordData → List ℕ
owned_key it = canonical_key (owned_type it) (owned_class it) (owned_parts it)
