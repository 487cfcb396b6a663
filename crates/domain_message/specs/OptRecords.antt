-- The OPT record of a message (RFC 6891, 6.1).
use Rattle.std.specs.Prelude.{◌≡◌, ◌⊎◌, ℕ, ◌/◌, ◌%◌, if◌then◌else◌, nat_lt, Bool, nat_eq, codes, List, Option, Some, None}
use Rattle.domain_wire.specs.Refusals.{refusal, refusal_text}
use Rattle.domain_wire.specs.declared.error.ParseError.{ParseError}
use Rattle.domain_header.specs.Bits.{bit}
use Rattle.domain_header.specs.Numbers.{number16}
use Rattle.domain_label.specs.Wire.{Root}
use Rattle.domain_message.specs.Entries.{RecordFields}
use Rattle.domain_message.specs.Kept.{FirstKept, NoneKept, MissesKept}
use Rattle.domain_message.specs.Sections.{AuthorityTo, NoAuthority}
use Rattle.domain_message.specs.Options.{AreAllThatIsLeft}
use Rattle.domain_message.specs.OptDataViews.{opt_octets}
use Rattle.domain_message.specs.declared.edns_data.OptData.{OptData}
use Rattle.domain_message.specs.declared.edns.OptError.{OptError}
use Rattle.domain_message.specs.declared.edns.OptError.TheVariants.{Parse, Another, Owner}
use Rattle.domain_message.specs.declared.edns.OptRecord.{OptRecord}

-- the number of the class, in whose place the size is that the sender tells (6.1.2)
abbrev pub opt_class : OptRecord → ℕ
opt_class it = it.class

-- the size that the sender takes, where it tells this one: at least 512 (6.2.3)
abbrev pub taken_size : ℕ → ℕ
taken_size told = if nat_lt told 512 then 512 else told

-- the TTL (6.1.3)
abbrev pub opt_ttl : OptRecord → ℕ
opt_ttl it = it.ttl

-- the data
abbrev pub opt_data : OptRecord → OptData
opt_data it = it.«data»

-- the eight bits of the response code above the header's four, in the TTL (6.1.3)
abbrev pub upper_code : ℕ → ℕ
upper_code ttl = ttl / 16777216

-- the version, in the TTL
abbrev pub edns_version : ℕ → ℕ
edns_version ttl = ttl / 65536 % 256

-- the bit DO, in the TTL
abbrev pub dnssec_ok_bit : ℕ → ℕ
dnssec_ok_bit ttl = bit 32768 ttl

-- the bit CO, in the TTL (RFC 9824, 5.1)
abbrev pub compact_ok_bit : ℕ → ℕ
compact_ok_bit ttl = bit 16384 ttl

-- whether a record is an OPT record
abbrev pub is_opt : RecordFields → Bool
is_opt it = nat_eq it.header.rtype 41

-- This is what the record says.
pub record SaysOpt (it : RecordFields) (opt : OptRecord) : Type 0 where
  pub root : it.header.owner ≡ Root
  pub class : opt_class opt ≡ it.header.class
  pub ttl : opt_ttl opt ≡ it.header.ttl
  pub options : (e : ℕ) × AreAllThatIsLeft it.octets it.start (opt_octets (opt_data opt)) e

-- The first OPT record of the additional section is `it`, which ends before q, and k records are left after it.
abbrev pub FirstOpt : List ℕ → RecordFields → ℕ → ℕ → Type 0
FirstOpt m it q k = (e : ℕ) × AuthorityTo m e × FirstKept is_opt m e (number16 m 10) it q k

-- All records of the additional section are there, and one is an OPT record, which says this; or none is.
abbrev pub IsTheOpt : List ℕ → Option OptRecord → Type 0
IsTheOpt m None = (e : ℕ) × AuthorityTo m e × NoneKept is_opt m e (number16 m 10)
IsTheOpt m (Some opt) = (it : RecordFields) × (q : ℕ) × (k : ℕ) × FirstOpt m it q k × NoneKept is_opt m q k × SaysOpt it opt

-- The first OPT record is `it`, of the root (6.1.2), which ends before q, and k records are left after it.
abbrev pub FirstOfRoot : List ℕ → RecordFields → ℕ → ℕ → Type 0
FirstOfRoot m it q k = FirstOpt m it q k × (it.header.owner ≡ Root)

-- An entry is missing: before the additional section, or of this one before an OPT record, or between that and a
-- second. Or a second OPT record is there, or the first isn't of the root.
abbrev pub HasOptFault : List ℕ → OptError → Type 0
HasOptFault m (Parse why) = NoAuthority m why
    ⊎ ((e : ℕ) × AuthorityTo m e × MissesKept is_opt m e (number16 m 10) why)
    ⊎ ((it : RecordFields) × (q : ℕ) × (k : ℕ) × FirstOfRoot m it q k × MissesKept is_opt m q k why)
HasOptFault m Another = (it other : RecordFields) × (q k p n : ℕ) × FirstOfRoot m it q k × FirstKept is_opt m q k other p n
HasOptFault m Owner = (it : RecordFields) × (q : ℕ) × (k : ℕ) × FirstOpt m it q k × (it.header.owner ≡ Root → ⊥)

-- the text of the error
abbrev pub opt_error_text : OptError → List ℕ
opt_error_text (Parse why) = refusal_text (refusal why)
opt_error_text Another = codes "more than one OPT record"
opt_error_text Owner = codes "OPT record whose owner is not the root"

-- the response code of a query that this is wrong with: FORMERR (6.1.1; RFC 1035, 4.1.1)
abbrev pub opt_error_rcode : OptError → ℕ
opt_error_rcode (Parse _) = 1
opt_error_rcode Another = 1
opt_error_rcode Owner = 1
