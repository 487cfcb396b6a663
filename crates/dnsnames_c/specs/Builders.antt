-- Messages that are built in the caller's buffer (RFC 1035, 4.1). `o` is the list of its octets, `b` the builder
-- beside it.
use Rattle.std.specs.Prelude.{◌≡◌, ◌⊎◌, ℕ, zero, suc, ◌+◌, ◌*◌, ◌<◌, Bool, true, false, List, [], ◌∷◌, ◌++◌, length, take, drop, min, Option, Some, None, IsSome, nat_eq, if◌then◌else◌}
use Rattle.domain_header.specs.Headers.{header_octets, counts_octets}
use Rattle.domain_label.specs.Wire.{Root, IsAbsoluteWire}
use Rattle.domain_message.specs.Composing.{type_and_class}
use Rattle.domain_message.specs.declared.section.Section.{Section}
use Rattle.domain_message.specs.declared.section.Section.TheVariants.{Answer, Authority, Additional}
use Rattle.domain_message_builder.specs.Contents.{blank_header, RecordHead, Content, no_content, Holds}
use Rattle.domain_message_builder.specs.Cuts.{Truncates}
use Rattle.domain_message_builder.specs.Opt.{Opt, opt_head}
use Rattle.domain_message_builder.specs.Pushes.{record_count, PushesQuestion}
use Rattle.domain_message_builder.specs.Reading.{IsMessageOf}
use Rattle.domain_buffer.specs.Puts.{PutsAt}
use Rattle.domain_buffer.specs.Builders.{header_of, counts_of, builder_state, IsUsable, Enters, TooBig, asked_by_wire, PushesData}
use Rattle.domain_buffer.specs.Data.{Fields, whole, IsNamed}
use Rattle.domain_buffer.specs.Named.{PushesNamed}
use Rattle.domain_buffer.specs.Pushing.{RefusesData, RefusesNamed}
use Rattle.domain_buffer.specs.declared.builder.Builder.{Builder}
use Rattle.domain_buffer.specs.declared.push.PushFault.{PushFault}
use Rattle.dnsnames_c.specs.Status.{push_number}

-- A message was begun with this identifier and these flags, and nothing in it; it has as many octets as the buffer at
-- most, and 65,535 (0). Or the buffer has no room for a header (8), and nothing changed.
abbrev pub BeginsMessage : ℕ → ℕ → ℕ → List ℕ → Builder → List ℕ → Builder → Type 0
BeginsMessage id flags status o b o' b' =
    ((status ≡ 0) × PutsAt 0 blank_header o o' × (b'.limit ≡ min (length o) 65535) × (b'.id ≡ id)
    × (b'.flags ≡ flags) × (b'.len ≡ 12) × (b'.table_len ≡ 0)
    × Holds true (builder_state o' b') no_content × IsUsable o' b')
    ⊎ ((status ≡ 8) × (length o < 12) × (o' ≡ o) × (b' ≡ b))

-- Why a question isn't pushed: the builder isn't usable (23), the name is no absolute name (9), a record was pushed
-- (24), 65,535 questions were (25), or it doesn't fit (8).
abbrev pub RefusesQuestion : List ℕ → Builder → List ℕ → ℕ → Type 0
RefusesQuestion o b name status =
    ((status ≡ 23) × (IsUsable o b → ⊥))
    ⊎ ((status ≡ 9) × IsUsable o b × (IsAbsoluteWire name → ⊥))
    ⊎ ((status ≡ 24) × IsUsable o b × IsAbsoluteWire name × (0 < record_count (counts_of b)))
    ⊎ ((status ≡ 25) × IsUsable o b × IsAbsoluteWire name × (record_count (counts_of b) ≡ 0)
    × (b.questions ≡ 65535))
    ⊎ ((status ≡ 8) × IsUsable o b × IsAbsoluteWire name × (record_count (counts_of b) ≡ 0)
    × (b.questions < 65535) × TooBig o b name 4)

-- The question was pushed (0); or it wasn't, and nothing changed.
abbrev pub AsksFor : List ℕ → ℕ → ℕ → ℕ → List ℕ → Builder → List ℕ → Builder → Type 0
AsksFor name rtype class status o b o' b' =
    ((status ≡ 0) × IsUsable o b × IsAbsoluteWire name
    × Enters o b name (type_and_class rtype class) o' b'
    × PushesQuestion true (asked_by_wire name rtype class) (builder_state o b) (builder_state o' b') × IsUsable o' b')
    ⊎ (RefusesQuestion o b name status × (o' ≡ o) × (b' ≡ b))

-- the section of a number: answers (1), authority (2), additional (3)
abbrev pub section_of : ℕ → Option Section
section_of n =
    if nat_eq n 1 then Some Answer else if nat_eq n 2 then Some Authority else if nat_eq n 3
    then Some Additional else None

-- The record was pushed (0); or it wasn't, and nothing changed.
abbrev pub GivesData : Section → List ℕ → RecordHead → List ℕ → ℕ → List ℕ → Builder → List ℕ
    → Builder → Type 0
GivesData section owner head rdata status o b o' b' =
    ((status ≡ 0) × PushesData section owner head rdata o b o' b')
    ⊎ ((why : PushFault) × RefusesData section owner rdata o b why × (status ≡ push_number why)
    × (o' ≡ o) × (b' ≡ b))

-- So was a record with names in its data, these with compression; or it wasn't, and nothing changed.
abbrev pub GivesNamed : Section → List ℕ → RecordHead → Fields → ℕ → List ℕ → Builder → List ℕ
    → Builder → Type 0
GivesNamed section owner head f status o b o' b' =
    ((status ≡ 0) × PushesNamed section owner head f o b o' b')
    ⊎ ((why : PushFault) × RefusesNamed section owner f o b why × (status ≡ push_number why)
    × (o' ≡ o) × (b' ≡ b))

-- Either these are the fields of data of a type in which names may be compressed, and they are written so. Or the data
-- are no such fields, and are written unchanged.
abbrev pub GivesEither : Section → List ℕ → RecordHead → List ℕ → ℕ → List ℕ → Builder → List ℕ
    → Builder → Type 0
GivesEither section owner head rdata status o b o' b' =
    ((f : Fields) × IsNamed head.rtype f × (whole f ≡ rdata)
    × GivesNamed section owner head f status o b o' b')
    ⊎ (((f : Fields) → IsNamed head.rtype f → whole f ≡ rdata → ⊥)
    × GivesData section owner head rdata status o b o' b')

-- The same of a section by its number; or the builder isn't usable (23), there is no such section (26), or the owner's
-- name is no absolute name (9).
abbrev pub GivesInSection : ℕ → List ℕ → RecordHead → List ℕ → ℕ → List ℕ → Builder → List ℕ → Builder
    → Type 0
GivesInSection number owner head rdata status o b o' b' =
    (IsUsable o b × (section : Section) × (section_of number ≡ Some section) × IsAbsoluteWire owner
    × GivesEither section owner head rdata status o b o' b')
    ⊎ ((status ≡ 23) × (IsUsable o b → ⊥) × (o' ≡ o) × (b' ≡ b))
    ⊎ ((status ≡ 26) × IsUsable o b × (section_of number ≡ None) × (o' ≡ o) × (b' ≡ b))
    ⊎ ((status ≡ 9) × IsUsable o b × IsSome (section_of number) × (IsAbsoluteWire owner → ⊥)
    × (o' ≡ o) × (b' ≡ b))

-- a number that isn't 0
abbrev pub is_set : ℕ → Bool
is_set zero = false
is_set (suc n) = true

-- an OPT record with these numbers and options
abbrev pub opt_with : ℕ → ℕ → ℕ → ℕ → List ℕ → Opt
opt_with size rcode_ext version dnssec_ok options =
    record {
      udp_payload_size = size;
      rcode_ext = rcode_ext;
      version = version;
      dnssec_ok = is_set dnssec_ok;
      options = options;
    }

-- an OPT record before the length of its options, with sixteen flags (RFC 6891, 6.1.2 to 6.1.4)
abbrev pub flagged_opt : ℕ → ℕ → ℕ → ℕ → RecordHead
flagged_opt size rcode_ext version bits =
    record {
      owner = Root;
      rtype = 41;
      class = size;
      ttl = rcode_ext * 16777216 + version * 65536 + bits;
    }

-- A record of the root with this data was pushed into the additional section, or it wasn't.
abbrev pub GivesRootRecord : RecordHead → List ℕ → ℕ → List ℕ → Builder → List ℕ → Builder → Type 0
GivesRootRecord head rdata status o b o' b' =
    (IsUsable o b × GivesData Additional (0 ∷ []) head rdata status o b o' b')
    ⊎ ((status ≡ 23) × (IsUsable o b → ⊥) × (o' ≡ o) × (b' ≡ b))

-- The OPT record was pushed into the additional section (RFC 6891, 6.1), or it wasn't.
abbrev pub GivesOpt : Opt → ℕ → List ℕ → Builder → List ℕ → Builder → Type 0
GivesOpt opt status o b o' b' = GivesRootRecord (opt_head opt) opt.options status o b o' b'

-- The records were taken away again, and TC was set (RFC 2181, 9); or the builder isn't usable (23), and nothing
-- changed.
abbrev pub Cuts : ℕ → List ℕ → Builder → Builder → Type 0
Cuts status o b b' =
    ((status ≡ 0) × IsUsable o b × Truncates true (builder_state o b) (builder_state o b') × IsUsable o b')
    ⊎ ((status ≡ 23) × (IsUsable o b → ⊥) × (b' ≡ b))

-- The header was written, and the size of the message was given, which is read as what was pushed (0); or the builder
-- isn't usable (23), and nothing changed.
abbrev pub Finishes : ℕ → List ℕ → Builder → List ℕ → ℕ → ℕ → Type 0
Finishes status o b o' old_len len =
    ((status ≡ 0) × IsUsable o b × (len ≡ b.len)
    × (o' ≡ header_octets (header_of b) ++ (counts_octets (counts_of b) ++ drop 12 o))
    × ((it : Content) → Holds true (builder_state o b) it → IsMessageOf (header_of b) it (take b.len o')))
    ⊎ ((status ≡ 23) × (IsUsable o b → ⊥) × (o' ≡ o) × (len ≡ old_len))
