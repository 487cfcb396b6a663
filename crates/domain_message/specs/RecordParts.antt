-- What contracts see of a record.
use Rattle.domain_header.specs.declared.class.Class.{Class}
use Rattle.domain_header.specs.declared.ttl.Ttl.{Ttl}
use Rattle.domain_message.specs.declared.resource_record.Record.{Record}

-- the owner's name of a record
abbrev pub owner_of : {N D : Type 0} → Record N D → N
owner_of r = r.owner

-- the class of a record
abbrev pub class_of : {N D : Type 0} → Record N D → Class
class_of r = r.class

-- the TTL of a record
abbrev pub ttl_of : {N D : Type 0} → Record N D → Ttl
ttl_of r = r.ttl

-- the data of a record
abbrev pub data_of : {N D : Type 0} → Record N D → D
data_of r = r.rdata
