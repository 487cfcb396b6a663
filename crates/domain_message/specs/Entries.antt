-- Questions and records in a message (RFC 1035, 4.1). `m` is the list of its octets, p and e are offsets in it.
use Rattle.std.specs.Prelude.{◌≡◌, ℕ, ◌+◌, ◌<◌, ◌≤◌, List, length, take}
use Rattle.domain_wire.specs.declared.error.ParseError.{ParseError}
use Rattle.domain_wire.specs.declared.error.ParseError.TheVariants.{ShortInput}
use Rattle.domain_wire.specs.Refusals.{refusal}
use Rattle.domain_reading.specs.Limits.{max_pointers}
use Rattle.domain_reading.specs.Grammar.{Names, EncodingEnds}
use Rattle.domain_reading.specs.ParseResult.{HasNoName}
use Rattle.domain_header.specs.Numbers.{number16, number32}

-- The labels of the name at p are ls, and its encoding ends before e: after the root or the first pointer (RFC 1035,
-- 4.1.4).
pub record WholeNameAt (m : List ℕ) (p : ℕ) (ls : List (List ℕ)) (e : ℕ) : Type 0 where
  pub labels : Names max_pointers m p ls
  pub encoding : EncodingEnds m p e

-- No name is at p, or fewer than n octets follow it, and why.
pub data NoNameBefore (n : ℕ) (m : List ℕ) (p : ℕ) (why : ParseError) : Type 0 where
  no_name : HasNoName max_pointers m p (refusal why) → NoNameBefore n m p why
  too_short : (ls : List (List ℕ)) (e : ℕ) → WholeNameAt m p ls e → length m < e + n
      → why ≡ ShortInput → NoNameBefore n m p why

-- what a question says
pub record QuestionFields : Type 0 where
  pub name : List (List ℕ)
  pub rtype : ℕ
  pub class : ℕ

-- A question is at p and ends before e (RFC 1035, 4.1.2).
pub record QuestionAt (m : List ℕ) (p : ℕ) (it : QuestionFields) (e : ℕ) : Type 0 where
  pub name_end : ℕ
  pub name : WholeNameAt m p it.name name_end
  pub rtype : it.rtype ≡ number16 m name_end
  pub class : it.class ≡ number16 m (name_end + 2)
  pub inside : name_end + 4 ≤ length m
  pub end : e ≡ name_end + 4

-- No question is at p, and why.
abbrev pub NoQuestion : List ℕ → ℕ → ParseError → Type 0
NoQuestion m p why = NoNameBefore 4 m p why

-- what a record says before its data
pub record HeaderFields : Type 0 where
  pub owner : List (List ℕ)
  pub rtype : ℕ
  pub class : ℕ
  pub ttl : ℕ
  pub rdlen : ℕ

-- What a record has before its data is at p and ends before e (RFC 1035, 4.1.3).
pub record RecordHeaderAt (m : List ℕ) (p : ℕ) (it : HeaderFields) (e : ℕ) : Type 0 where
  pub name_end : ℕ
  pub name : WholeNameAt m p it.owner name_end
  pub rtype : it.rtype ≡ number16 m name_end
  pub class : it.class ≡ number16 m (name_end + 2)
  pub ttl : it.ttl ≡ number32 m (name_end + 4)
  pub rdlen : it.rdlen ≡ number16 m (name_end + 8)
  pub inside : name_end + 10 ≤ length m
  pub end : e ≡ name_end + 10

-- No record header is at p, and why.
abbrev pub NoRecordHeader : List ℕ → ℕ → ParseError → Type 0
NoRecordHeader m p why = NoNameBefore 10 m p why

-- What a record says: its header, the offset of its data, and the octets of the message up to the data's end. The data
-- is read from these with the names that it points to.
pub record RecordFields : Type 0 where
  pub header : HeaderFields
  pub start : ℕ
  pub octets : List ℕ

-- A record is at p and ends before e (RFC 1035, 4.1.3).
pub record RecordAt (m : List ℕ) (p : ℕ) (it : RecordFields) (e : ℕ) : Type 0 where
  pub header : RecordHeaderAt m p it.header it.start
  pub inside : it.start + it.header.rdlen ≤ length m
  pub end : e ≡ it.start + it.header.rdlen
  pub octets : it.octets ≡ take e m

-- No record is at p, and why: no record header, or fewer octets of data than it says.
pub data NoRecord (m : List ℕ) (p : ℕ) (why : ParseError) : Type 0 where
  no_header : NoRecordHeader m p why → NoRecord m p why
  no_data : (it : HeaderFields) (q : ℕ) → RecordHeaderAt m p it q → length m < q + it.rdlen
      → why ≡ ShortInput → NoRecord m p why
