-- The fields of a TSIG record's data (RFC 8945, 4.2).
use Rattle.std.specs.Prelude.{◌≡◌, ◌⊎◌, ℕ, ◌+◌, ◌*◌, ◌<◌, ◌≤◌, codes, List, [], ◌++◌, length, drop, slice_range}
use Rattle.domain_wire.specs.Refusals.{Refusal, refusal}
use Rattle.domain_wire.specs.Refusals.Refusal.{short_input, form}
use Rattle.domain_wire.specs.declared.error.ParseError.{ParseError}
use Rattle.domain_flat.specs.Faults.{StartFault}
use Rattle.domain_header.specs.Numbers.{number16, number32}
use Rattle.domain_label.specs.Wire.{wire, IsAbsoluteName}
use Rattle.domain_name.specs.Names.{name_labels}
use Rattle.domain_message.specs.declared.tsig_fields.Tsig.{Tsig}

-- The 16 bits at the offset are a length. After them come `counted`, of that many octets, and then `rest`.
pub record CountedAt (octets : List ℕ) (offset : ℕ) (counted rest : List ℕ) : Type 0 where
  pub whole : offset + 2 + number16 octets offset ≤ length octets
  pub counted_is : counted ≡ slice_range octets (offset + 2) (offset + 2 + number16 octets offset)
  pub rest_is : rest ≡ drop (offset + 2 + number16 octets offset) octets

-- The octets end before they do.
abbrev pub EndsInCounted : List ℕ → ℕ → Type 0
EndsInCounted octets offset =
    (length octets < offset + 2) ⊎ (length octets < offset + 2 + number16 octets offset)

-- What is behind the name of the algorithm: when it was signed, in 48 bits, and how many seconds that may be off; the
-- MAC; the identifier that the message had, an error, and other data.
pub record AreTsigParts (octets : List ℕ) (time fudge : ℕ) (mac : List ℕ) (id error : ℕ) (other : List ℕ) : Type 0 where
  pub time_is : time ≡ number16 octets 0 * 4294967296 + number32 octets 2
  pub fudge_is : fudge ≡ number16 octets 6
  pub behind : List ℕ
  pub mac_is : CountedAt octets 8 mac behind
  pub id_is : id ≡ number16 behind 0
  pub error_is : error ≡ number16 behind 2
  pub other_is : CountedAt behind 4 other []

-- Why octets aren't that: they end inside the MAC or before it, or inside the other data; or more come after these.
pub data IsPartsFault (octets : List ℕ) (why : Refusal) : Type 0 where
  no_mac : EndsInCounted octets 8 → why ≡ short_input → IsPartsFault octets why
  no_other : (mac behind : List ℕ) → CountedAt octets 8 mac behind → EndsInCounted behind 4
      → why ≡ short_input → IsPartsFault octets why
  trailing : (mac behind other rest : List ℕ) → CountedAt octets 8 mac behind
      → CountedAt behind 4 other rest → 0 < length rest → why ≡ form (codes "trailing data")
      → IsPartsFault octets why

-- The octets begin with this name, uncompressed, and the rest comes after it.
abbrev pub BeginsWithName : List ℕ → List (List ℕ) → List ℕ → Type 0
BeginsWithName octets ls rest = IsAbsoluteName ls × (octets ≡ wire ls ++ rest)

-- The octets are the data of a TSIG record: the name of the algorithm, and the parts behind it.
pub record SayTsig (octets : List ℕ) (it : Tsig) : Type 0 where
  pub behind : List ℕ
  pub name : BeginsWithName octets (name_labels it.algorithm) behind
  pub parts : AreTsigParts behind it.time_signed it.fudge it.mac.now it.original_id it.error it.other.now

-- Why they aren't: they begin with no such name, or what is behind it isn't of this form.
abbrev pub IsTsigFault : List ℕ → ParseError → Type 0
IsTsigFault octets e =
    StartFault octets (refusal e)
    ⊎ ((ls : List (List ℕ)) × (behind : List ℕ) × BeginsWithName octets ls behind × IsPartsFault behind (refusal e))
