-- The TSIG record of a message (RFC 8945, 4.2 and 5.1).
use Rattle.std.specs.Prelude.{◌⊎◌, ℕ, ◌<◌, Bool, nat_eq, codes, List, Option, Some, None}
use Rattle.octseq.specs.declared.octets.Octets.{Ghosts}
use Rattle.domain_wire.specs.Refusals.{refusal, refusal_text}
use Rattle.domain_header.specs.Numbers.{number16}
use Rattle.domain_parsed.specs.declared.parsed.ParsedName.{ParsedName}
use Rattle.domain_message.specs.Entries.{RecordFields}
use Rattle.domain_message.specs.Kept.{FirstKept, NoneKept, MissesKept, IsMadeOf}
use Rattle.domain_message.specs.Options.{AreAllThatIsLeft}
use Rattle.domain_message.specs.Sections.{AuthorityTo, NoAuthority}
use Rattle.domain_message.specs.declared.resource_record.Record.{Record}
use Rattle.domain_message.specs.declared.tsig.TsigData.{TsigData}
use Rattle.domain_message.specs.declared.tsig.TsigError.{TsigError}
use Rattle.domain_message.specs.declared.tsig.TsigError.TheVariants.{Parse, NotLast}

-- the octets of the data
abbrev pub tsig_octets : TsigData → List ℕ
tsig_octets it = it.octets.now

-- whether a record is a TSIG record
abbrev pub is_tsig : RecordFields → Bool
is_tsig it = nat_eq it.header.rtype 250

-- The record was made of the one in the message: its owner, class and TTL, and the octets of its data.
abbrev pub SaysTsig : {O : Type 0} {g : Ghosts O} → RecordFields → Record (ParsedName O g) TsigData → Type 0
SaysTsig {g = g} it made = IsMadeOf {g = g} (λ _. 250) tsig_octets (λ _. AreAllThatIsLeft) it made

-- The first TSIG record of the additional section is `it`, which ends before q, and k records are left after it.
abbrev pub FirstTsig : List ℕ → RecordFields → ℕ → ℕ → Type 0
FirstTsig m it q k = (e : ℕ) × AuthorityTo m e × FirstKept is_tsig m e (number16 m 10) it q k

-- The last record of the additional section is the first TSIG record there, and is this; or all of its records are
-- there, and none is one.
abbrev pub IsTheTsig : {O : Type 0} {g : Ghosts O} → List ℕ → Option (Record (ParsedName O g) TsigData) → Type 0
IsTheTsig m None = (e : ℕ) × AuthorityTo m e × NoneKept is_tsig m e (number16 m 10)
IsTheTsig m (Some made) = (it : RecordFields) × (q : ℕ) × FirstTsig m it q 0 × SaysTsig it made

-- An entry is missing: before the additional section, or of this one before a TSIG record. Or records are left after
-- the first TSIG record, another TSIG record or others (5.1).
abbrev pub HasTsigFault : List ℕ → TsigError → Type 0
HasTsigFault m (Parse why) =
    NoAuthority m why
    ⊎ ((e : ℕ) × AuthorityTo m e × MissesKept is_tsig m e (number16 m 10) why)
HasTsigFault m NotLast = (it : RecordFields) × (q k : ℕ) × FirstTsig m it q k × (0 < k)

-- the text of the error
abbrev pub tsig_error_text : TsigError → List ℕ
tsig_error_text (Parse why) = refusal_text (refusal why)
tsig_error_text NotLast = codes "TSIG record that is not the last record"

-- the response code of a query that this is wrong with: FORMERR (5.1; RFC 1035, 4.1.1)
abbrev pub tsig_error_rcode : TsigError → ℕ
tsig_error_rcode (Parse _) = 1
tsig_error_rcode NotLast = 1
