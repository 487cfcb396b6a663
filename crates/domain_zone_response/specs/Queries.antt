-- What a query asks.
use Rattle.std.specs.Prelude.{◌≡◌, ℕ, ◌<◌, ◌⊎◌, ◌&&◌, ◌||◌, ◌==◌, nat_lt, if◌then◌else◌, List, length, slice_index, Option, Some, None, Result, Ok, Err}
use Rattle.octseq.specs.declared.octets.Octets.{Ghosts}
use Rattle.domain_wire.specs.declared.error.ParseError.{ParseError}
use Rattle.domain_header.specs.Bits.{bit, bits}
use Rattle.domain_header.specs.Numbers.{number16}
use Rattle.domain_message.specs.Entries.{QuestionFields, QuestionAt}
use Rattle.domain_message.specs.Models.{question_fields}
use Rattle.domain_message.specs.OptRecords.{IsTheOpt, HasOptFault, opt_ttl, edns_version}
use Rattle.domain_message.specs.Sole.{NoSoleQuestion}
use Rattle.domain_message.specs.declared.edns.OptError.{OptError}
use Rattle.domain_message.specs.declared.edns.OptRecord.{OptRecord}
use Rattle.domain_message.specs.declared.question.Question.{Question}
use Rattle.domain_parsed.specs.declared.parsed.ParsedName.{ParsedName}

-- No message is sent: these are fewer octets than a header has, or a response.
abbrev pub IsNoQuery : List ℕ → Type 0
IsNoQuery m = (length m < 12) ⊎ (bit 128 (slice_index m 2) ≡ 1)

-- the OPT record of a query, or what is wrong with it
abbrev pub Asked : Type 0
Asked = Result (Option OptRecord) OptError

-- This is the OPT record of the query, or what is wrong with it.
abbrev pub TellsOpt : List ℕ → Asked → Type 0
TellsOpt m (Ok found) = IsTheOpt m found
TellsOpt m (Err e) = HasOptFault m e

-- The response code of a query of this opcode: NOTIMP (RFC 1035, 4.1.1) where that isn't QUERY, and else the other.
abbrev pub opcode_code : ℕ → Option ℕ → Option ℕ
opcode_code opcode other = if nat_lt 0 opcode then Some 4 else other

-- The response code of a query, whatever it asks: the first of three that applies. BADVERS, where the version of EDNS
-- is above 0 (RFC 6891, 6.1.3). NOTIMP. FORMERR, where an entry is missing, or the OPT records aren't one of the root
-- (RFC 6891, 6.1.1 and 6.1.2).
abbrev pub header_code : ℕ → Asked → Option ℕ
header_code opcode (Ok None) = opcode_code opcode None
header_code opcode (Ok (Some opt)) = if nat_lt 0 (edns_version (opt_ttl opt)) then Some 16 else opcode_code opcode None
header_code opcode (Err e) = opcode_code opcode (Some 1)

-- The response code of a question for this type: NOTIMP for TKEY (RFC 2930, 4), IXFR, AXFR, MAILB and MAILA, FORMERR
-- for another meta type, 0 and 65,535 (RFC 6895, 3.1), and none for ANY and types of data.
abbrev pub type_code : ℕ → Option ℕ
type_code t =
    if t == 255 then None else
    (if (t == 249) || (nat_lt 250 t && nat_lt t 256) then Some 4 else
    (if (t == 0) || ((t == 41) || (t == 65535)) then Some 1 else
    (if nat_lt 127 t && nat_lt t 256 then Some 1 else None)))

-- The header counts one question, and it is this one.
abbrev pub HasQuestion : List ℕ → QuestionFields → Type 0
HasQuestion m q = (number16 m 4 ≡ 1) × (e : ℕ) × QuestionAt m 12 q e

-- The opcode (RFC 1035, 4.1.1).
abbrev pub opcode_of : List ℕ → ℕ
opcode_of m = bits 8 16 (slice_index m 2)

-- The question that a zone of this class answers, or the response code of the query: in this order a fault of the
-- header or of EDNS, FORMERR where there isn't one question, REFUSED for another class, and a fault of the type.
pub data Asks (m : List ℕ) (class : ℕ) (asked : Asked) : Result QuestionFields ℕ → Type 0 where
  of_header : (code : ℕ) → header_code (opcode_of m) asked ≡ Some code → Asks m class asked (Err code)
  not_one : (why : ParseError) → header_code (opcode_of m) asked ≡ None → NoSoleQuestion m why → Asks m class asked (Err 1)
  of_class : (q : QuestionFields) → header_code (opcode_of m) asked ≡ None → HasQuestion m q → (q.class ≡ class → ⊥) → Asks m class asked (Err 5)
  of_type : (q : QuestionFields) (code : ℕ) → header_code (opcode_of m) asked ≡ None → HasQuestion m q → q.class ≡ class → type_code q.rtype ≡ Some code → Asks m class asked (Err code)
  asks : (q : QuestionFields) → header_code (opcode_of m) asked ≡ None → HasQuestion m q → q.class ≡ class → type_code q.rtype ≡ None → Asks m class asked (Ok q)

-- A zone of this class answers the query m: it isn't refused.
abbrev pub IsAnswerable : ℕ → List ℕ → Type 0
IsAnswerable class m = (asked : Asked) × TellsOpt m asked × (q : QuestionFields) × Asks m class asked (Ok q)

-- A question as contracts see it, or a response code.
abbrev pub asked_fields : {O : Type 0} {g : Ghosts O} → Result (Question (ParsedName O g)) ℕ → Result QuestionFields ℕ
asked_fields (Ok q) = Ok (question_fields q)
asked_fields (Err code) = Err code
