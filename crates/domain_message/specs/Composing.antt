-- The octets that questions and records are composed into (RFC 1035, 4.1.2 and 4.1.3). `May t s`: the octets s may be
-- composed for the record's data after the octets t.
use Rattle.std.specs.Prelude.{◌≡◌, ℕ, ◌+◌, ◌<◌, ◌≤◌, Bool, List, ◌++◌, length}
use Rattle.std.specs.Int.{w16, w32, to_be_bytes}
use Rattle.domain_rdata.specs.declared.record_data.ComposeRdataError.{ComposeRdataError}
use Rattle.domain_rdata.specs.declared.record_data.ComposeRdataError.TheVariants.{Append, Long}
use Rattle.domain_rdata.specs.ReadBack.{Exceeds}
use Rattle.domain_rdata.specs.RecordData.{NameOctets, ExceedsWithLength, IsTooLong}

-- type and class
abbrev pub type_and_class : ℕ → ℕ → List ℕ
type_and_class rtype class = to_be_bytes w16 rtype ++ to_be_bytes w16 class

-- The octets s are some that are allowed for a name, then these, and then any.
pub record BeginsWithName (May : List ℕ → Type 0) (after s : List ℕ) : Type 0 where
  pub named : List ℕ
  pub name_allowed : May named
  pub rest : List ℕ
  pub all : s ≡ named ++ (after ++ rest)

-- A question may be composed into s after the octets t: a name, compressed or not, then type and class.
pub record QuestionOctets (name : List (List ℕ)) (rtype class : ℕ) (compresses : Bool) (t s : List ℕ) : Type 0 where
  pub named : List ℕ
  pub name_allowed : NameOctets name compresses t named
  pub all : s ≡ named ++ type_and_class rtype class

-- type, class and TTL
abbrev pub before_length : ℕ → ℕ → ℕ → List ℕ
before_length rtype class ttl =
    to_be_bytes w16 rtype ++ (to_be_bytes w16 class ++ to_be_bytes w32 ttl)

-- A record may be composed into s after the octets t: the owner's name, compressed or not, then type, class, TTL, the
-- length of the data, and the data.
pub record RecordOctets (owner : List (List ℕ)) (rtype class ttl : ℕ) (May : List ℕ → List ℕ → Type 0) (compresses : Bool) (t s : List ℕ) : Type 0 where
  pub named : List ℕ
  pub name_allowed : NameOctets owner compresses t named
  pub rdata : List ℕ
  pub few : length rdata ≤ 65535
  pub data_allowed : May (t ++ named ++ before_length rtype class ttl
      ++ to_be_bytes w16 (length rdata)) rdata
  pub all : s ≡ named ++ (before_length rtype class ttl
      ++ (to_be_bytes w16 (length rdata) ++ rdata))

-- A name that may be composed, the eight octets after it, the length or the data exceed the spare capacity.
pub data RecordExceeds (owner : List (List ℕ)) (rtype class ttl : ℕ) (May : List ℕ → List ℕ → Type 0) (compresses : Bool) (t : List ℕ) (capacity : ℕ) : Type 0 where
  no_name : Exceeds (NameOctets owner compresses t) t capacity
      → RecordExceeds owner rtype class ttl May compresses t capacity
  no_numbers : (named : List ℕ) → NameOctets owner compresses t named
      → capacity < length t + length named + 8
      → RecordExceeds owner rtype class ttl May compresses t capacity
  no_data : (named : List ℕ) (room : ℕ) → NameOctets owner compresses t named → capacity ≤ room
      → ExceedsWithLength May (t ++ named ++ before_length rtype class ttl) room
      → RecordExceeds owner rtype class ttl May compresses t capacity

-- Why nothing was composed.
abbrev pub ComposeRecordRefused : {E : Type 0} → List (List ℕ) → ℕ → ℕ → ℕ → (List ℕ → List ℕ → Type 0)
    → Bool → List ℕ → ℕ → ComposeRdataError E → Type 0
ComposeRecordRefused owner rtype class ttl May compresses t capacity (Append e) =
    RecordExceeds owner rtype class ttl May compresses t capacity
ComposeRecordRefused owner rtype class ttl May compresses t capacity (Long e) =
    (named : List ℕ) × NameOctets owner compresses t named
    × IsTooLong May (t ++ named ++ before_length rtype class ttl)
