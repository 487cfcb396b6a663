-- What contracts see of classes, TTLs and codes: their numbers.
use Rattle.std.specs.Prelude.{ℕ}
use Rattle.domain_header.specs.declared.class.Class.{Class}
use Rattle.domain_header.specs.declared.ttl.Ttl.{Ttl}
use Rattle.domain_header.specs.declared.code.Opcode.{Opcode}
use Rattle.domain_header.specs.declared.code.Rcode.{Rcode}

-- the number of a class
abbrev pub class_number : Class → ℕ
class_number class = class.0

-- the seconds of a TTL
abbrev pub ttl_seconds : Ttl → ℕ
ttl_seconds ttl = ttl.0

-- the number of a kind of query
abbrev pub opcode_number : Opcode → ℕ
opcode_number code = code.number

-- the number of a response code
abbrev pub rcode_number : Rcode → ℕ
rcode_number code = code.number
