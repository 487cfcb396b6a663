-- The last record of a section, and SIG(0) records (RFC 2931, 3).
use Rattle.std.specs.Prelude.{◌≡◌, ◌⊎◌, ℕ, ◌+◌, ◌≤◌, List, length, drop, slice_index, Option, Some, None}
use Rattle.domain_flat.specs.Faults.{StartFault}
use Rattle.domain_header.specs.Numbers.{number16, number32}
use Rattle.domain_name.specs.Names.{name_labels}
use Rattle.domain_wire.specs.Refusals.{refusal}
use Rattle.domain_wire.specs.Refusals.Refusal.{short_input}
use Rattle.domain_wire.specs.declared.error.ParseError.{ParseError}
use Rattle.domain_message.specs.Entries.{RecordFields, RecordAt, NoRecord}
use Rattle.domain_message.specs.RecordModel.{record_fields, parsed_data}
use Rattle.domain_message.specs.Sections.{Run, Lacks, AuthorityTo, NoAuthority, entries_left, records_message, records_offset, records_left}
use Rattle.domain_message.specs.TsigFields.{BeginsWithName}
use Rattle.domain_message.specs.declared.record.ParsedRecord.{ParsedRecord}
use Rattle.domain_message.specs.declared.section.RecordSection.{RecordSection}
use Rattle.domain_message.specs.declared.sig0.Sig0.{Sig0}

-- Of n records at p, one after the other, this is the last.
abbrev pub IsLastAt : List ℕ → ℕ → ℕ → ParsedRecord → Type 0
IsLastAt m p n it =
    (front : List RecordFields) × (offset e : ℕ) × Run RecordAt m p front offset
    × RecordAt m offset (record_fields it) e × (n ≡ length front + 1)

-- This is the last of the records that weren't read yet.
abbrev pub IsLastRecord : RecordSection → ParsedRecord → Type 0
IsLastRecord s it = IsLastAt (records_message s) (records_offset s) (entries_left (records_left s)) it

-- One that wasn't read yet is missing, and why.
abbrev pub LacksRecord : RecordSection → ParseError → Type 0
LacksRecord s why =
    Lacks RecordAt NoRecord (records_message s) (records_offset s) (entries_left (records_left s)) why

-- The record is a SIG record, and no type is covered by it.
abbrev pub IsSig0 : ParsedRecord → Type 0
IsSig0 it =
    ((record_fields it).header.rtype ≡ 24) × (2 ≤ length (parsed_data it))
    × (number16 (parsed_data it) 0 ≡ 0)

-- This is the last record of the additional section.
abbrev pub HasLast : List ℕ → ParsedRecord → Type 0
HasLast m it = (e : ℕ) × AuthorityTo m e × IsLastAt m e (number16 m 10) it

-- The last record of the additional section is this, a SIG(0) record; or it is another, or none is there.
abbrev pub IsTheSig0 : List ℕ → Option ParsedRecord → Type 0
IsTheSig0 m None =
    ((e : ℕ) × AuthorityTo m e × (number16 m 10 ≡ 0))
    ⊎ ((it : ParsedRecord) × HasLast m it × (IsSig0 it → ⊥))
IsTheSig0 m (Some it) = HasLast m it × IsSig0 it

-- An entry is missing, before the additional section or of it.
abbrev pub HasSig0Fault : List ℕ → ParseError → Type 0
HasSig0Fault m why =
    NoAuthority m why
    ⊎ ((e : ℕ) × AuthorityTo m e × Lacks RecordAt NoRecord m e (number16 m 10) why)

-- The octets are the data of a SIG record (RFC 2535, 4.1): in 18 octets the type that it covers and the numbers, then
-- the uncompressed name of the signer, and the signature.
pub record SaySig0 (octets : List ℕ) (it : Sig0) : Type 0 where
  pub whole : 18 ≤ length octets
  pub algorithm_is : it.algorithm ≡ slice_index octets 2
  pub expiration_is : it.expiration ≡ number32 octets 8
  pub inception_is : it.inception ≡ number32 octets 12
  pub key_tag_is : it.key_tag ≡ number16 octets 16
  pub signer_is : BeginsWithName (drop 18 octets) (name_labels it.signer) it.signature.now

-- Why they aren't: they are too few, or no such name is behind the numbers.
abbrev pub NoSig0 : List ℕ → ParseError → Type 0
NoSig0 octets e =
    ((length octets ≤ 17) × (refusal e ≡ short_input))
    ⊎ ((18 ≤ length octets) × StartFault (drop 18 octets) (refusal e))
