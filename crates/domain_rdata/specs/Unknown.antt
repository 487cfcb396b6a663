-- What contracts see of record data of any type.
use Rattle.std.specs.Prelude.{ℕ, List}
use Rattle.octseq.specs.declared.octets.Octets.{Ghosts}
use Rattle.domain_rdata.specs.declared.unknown.UnknownRecordData.{UnknownRecordData}
use Rattle.domain_rdata.specs.Rtypes.{rtype_number}

-- the data's octets, what holds them, and the number of its type
abbrev pub data_octets : {O : Type 0} {g : Ghosts O} → UnknownRecordData O g → List ℕ
data_octets {g = g} d = g.octets d.octets

-- what holds the octets of the data
abbrev pub data_holder : {O : Type 0} {g : Ghosts O} → UnknownRecordData O g → O
data_holder d = d.octets

-- the number of the type of the data (RFC 1035, 3.2.1)
abbrev pub data_type : {O : Type 0} {g : Ghosts O} → UnknownRecordData O g → ℕ
data_type d = rtype_number d.rtype
