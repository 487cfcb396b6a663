-- What contracts see of octets that are read from the left.
use Rattle.std.specs.Prelude.{ℕ, List, ◌++◌, length, drop, nat_lt, if◌then◌else◌}
use Rattle.domain_fields.specs.Parts.{parts_octets}
use Rattle.domain_any_rdata.specs.Parts.{parts_left}
use Rattle.domain_any_rdata.specs.declared.reader.OctetReader.{OctetReader}

-- the octets in hand: the rest of a name, or else those of another field
abbrev pub in_hand : OctetReader → List ℕ
in_hand it = if nat_lt it.taken (length it.name.items) then drop it.taken it.name.items else it.octets.now

-- All remaining octets. A name is read into the buffer only when no other octets are in hand, so its rest comes first.
abbrev pub remaining_octets : OctetReader → List ℕ
remaining_octets it = drop it.taken it.name.items ++ (it.octets.now ++ parts_octets it.lowercase (parts_left it.fields))
