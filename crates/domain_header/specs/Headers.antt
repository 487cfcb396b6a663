-- What contracts see of a message's header (RFC 1035, 4.1.1).
use Rattle.std.specs.Prelude.{◌≡◌, ℕ, ◌∷◌, [], ◌++◌, List}
use Rattle.std.specs.Int.{w16, to_be_bytes}
use Rattle.domain_header.specs.Bits.{SetsBits}
use Rattle.domain_header.specs.declared.flags.Header.{Header}
use Rattle.domain_header.specs.declared.counts.HeaderCounts.{HeaderCounts}
use Rattle.domain_header.specs.declared.header.HeaderSection.{HeaderSection}

-- the identifier (RFC 1035, 4.1.1)
abbrev pub header_id : Header → ℕ
header_id h = h.id

-- the third octet: QR, opcode, AA, TC and RD
abbrev pub header_high : Header → ℕ
header_high h = h.high

-- the fourth octet: RA, Z, AD, CD and response code
abbrev pub header_low : Header → ℕ
header_low h = h.low

-- how many questions the header counts
abbrev pub question_count : HeaderCounts → ℕ
question_count c = c.qdcount

-- how many records of the answer section the header counts
abbrev pub answer_count : HeaderCounts → ℕ
answer_count c = c.ancount

-- how many records of the authority section it counts
abbrev pub authority_count : HeaderCounts → ℕ
authority_count c = c.nscount

-- how many records of the additional section it counts
abbrev pub additional_count : HeaderCounts → ℕ
additional_count c = c.arcount

-- the identifier and flags of a header section
abbrev pub section_header : HeaderSection → Header
section_header s = s.header

-- the counts of a header section
abbrev pub section_counts : HeaderSection → HeaderCounts
section_counts s = s.counts

-- Only this field of the third octet was set.
pub record SetsHigh (weight values value : ℕ) (old new : Header) : Type 0 where
  pub id : header_id new ≡ header_id old
  pub high : SetsBits weight values value (header_high old) (header_high new)
  pub low : header_low new ≡ header_low old

-- Only this field of the fourth octet was set.
pub record SetsLow (weight values value : ℕ) (old new : Header) : Type 0 where
  pub id : header_id new ≡ header_id old
  pub high : header_high new ≡ header_high old
  pub low : SetsBits weight values value (header_low old) (header_low new)

-- the four octets of identifier and flags
abbrev pub header_octets : Header → List ℕ
header_octets h = to_be_bytes w16 (header_id h) ++ header_high h ∷ header_low h ∷ []

-- the eight octets of the counts
abbrev pub counts_octets : HeaderCounts → List ℕ
counts_octets c = to_be_bytes w16 (question_count c) ++ (to_be_bytes w16 (answer_count c)
    ++ (to_be_bytes w16 (authority_count c) ++ to_be_bytes w16 (additional_count c)))
