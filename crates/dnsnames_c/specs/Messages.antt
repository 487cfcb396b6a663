-- Questions and records in a message (RFC 1035, 4.1). `m` is the message: the list of its octets.
use Rattle.std.specs.Prelude.{◌≡◌, ◌⊎◌, ℕ, ◌≤◌, ◌<◌, Bool, true, false, List, length}
use Rattle.domain_reading.specs.Faults.{Skips, SkipFault}
use Rattle.domain_reading.specs.declared.fault.NameFault.{NameFault}
use Rattle.dnsnames_c.specs.Status.{fault_number}
use Rattle.domain_buffer.specs.Entries.{LacksParts, EntryAt}
use Rattle.domain_buffer.specs.declared.entry.Parts.{Parts}

-- No question (true) or record (false) is at p, and this is the number of the fault: no name can be skipped there, or
-- the message ends in the parts after it.
abbrev pub NoEntryAt : List ℕ → Bool → ℕ → ℕ → Type 0
NoEntryAt m question p status =
    ((f : NameFault) × SkipFault m p f × (status ≡ fault_number f))
    ⊎ ((e : ℕ) × Skips m p e × LacksParts m question e × (status ≡ 1))

-- what follows the name of a question that ends at e
abbrev pub question_parts : ℕ → ℕ → ℕ → Parts
question_parts rtype class e =
    record { rtype = rtype; class = class; ttl = 0; data_at = e; data_len = 0; end = e }

-- The question at p was given (0); or there is none.
abbrev pub GivesQuestionParts : List ℕ → ℕ → ℕ → ℕ → ℕ → ℕ → Type 0
GivesQuestionParts m p status rtype class end =
    ((status ≡ 0) × EntryAt m true p (question_parts rtype class end)) ⊎ NoEntryAt m true p status

-- what follows the name of a record that ends at e
abbrev pub record_parts : ℕ → ℕ → ℕ → ℕ → ℕ → ℕ → Parts
record_parts rtype class ttl data_at data_len e =
    record {
      rtype = rtype;
      class = class;
      ttl = ttl;
      data_at = data_at;
      data_len = data_len;
      end = e;
    }

-- The record at p was given (0); or there is none.
abbrev pub GivesRecordParts : List ℕ → ℕ → ℕ → ℕ → ℕ → ℕ → ℕ → ℕ → ℕ → Type 0
GivesRecordParts m p status rtype class ttl data_at data_len end =
    ((status ≡ 0) × EntryAt m false p (record_parts rtype class ttl data_at data_len end))
    ⊎ NoEntryAt m false p status

-- The message has a header (0), or not (1).
abbrev pub TellsHeader : List ℕ → ℕ → Type 0
TellsHeader m status = ((status ≡ 0) × (12 ≤ length m)) ⊎ ((status ≡ 1) × (length m < 12))
