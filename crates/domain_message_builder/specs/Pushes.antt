-- What each call does to what was pushed.
use Rattle.std.specs.Prelude.{◌≡◌, ℕ, ◌+◌, ◌≤◌, Bool, List, ◌∷◌, [], ◌++◌, length, take}
use Rattle.domain_header.specs.Headers.{header_id, header_high, header_low, question_count, answer_count, authority_count, additional_count}
use Rattle.domain_header.specs.Values.{class_number, ttl_seconds}
use Rattle.domain_header.specs.declared.counts.HeaderCounts.{HeaderCounts}
use Rattle.domain_header.specs.declared.flags.Header.{Header}
use Rattle.domain_message.specs.Entries.{QuestionFields}
use Rattle.domain_message.specs.RecordParts.{owner_of, class_of, ttl_of, data_of}
use Rattle.domain_message.specs.EntryViews.{question_name, question_type, question_class}
use Rattle.domain_message.specs.declared.question.Question.{Question}
use Rattle.domain_message.specs.declared.resource_record.Record.{Record}
use Rattle.domain_message.specs.declared.section.Section.{Section}
use Rattle.domain_message.specs.declared.section.Section.TheVariants.{Answer, Authority, Additional}
use Rattle.domain_rdata.specs.ReadBack.{Appended}
use Rattle.domain_rdata.specs.Rtypes.{rtype_number}
use Rattle.domain_message_builder.specs.Contents.{RecordHead, PushedRecord, Content, no_content, blank_header, question_added, AsksIn, RecordsIn, Holds}
use Rattle.domain_message_builder.specs.SectionStarts.{start_of}
use Rattle.domain_message_builder.specs.State.{State}

-- what a question says whose name has the labels that `labels` tells
abbrev pub asked : {N : Type 0} → (N → List (List ℕ)) → Question N → QuestionFields
asked labels q = record { name = labels (question_name q); rtype = rtype_number (question_type q); class = class_number (question_class q) }

-- what a record says before the length of its data
abbrev pub headed : {N D : Type 0} → (N → List (List ℕ)) → (D → ℕ) → Record N D → RecordHead
headed labels type_number r = record { owner = labels (owner_of r); rtype = type_number (data_of r); class = class_number (class_of r); ttl = ttl_seconds (ttl_of r) }

-- a record more, in a section
abbrev pub record_added : Section → Content → PushedRecord → Content
record_added Answer it r = record it { answers = it.answers ++ r ∷ [] }
record_added Authority it r = record it { authority = it.authority ++ r ∷ [] }
record_added Additional it r = record it { additional = it.additional ++ r ∷ [] }

-- without the records of this section and those after it
abbrev pub emptied : Section → Content → Content
emptied Answer it = record it { answers = []; authority = []; additional = [] }
emptied Authority it = record it { authority = []; additional = [] }
emptied Additional it = record it { additional = [] }

-- how many records a section has
abbrev pub section_count : Section → HeaderCounts → ℕ
section_count Answer counts = answer_count counts
section_count Authority counts = authority_count counts
section_count Additional counts = additional_count counts

-- how many records the sections after it have
abbrev pub later_count : Section → HeaderCounts → ℕ
later_count Answer counts = authority_count counts + additional_count counts
later_count Authority counts = additional_count counts
later_count Additional counts = 0

-- how many records there are
abbrev pub record_count : HeaderCounts → ℕ
record_count counts = answer_count counts + (authority_count counts + additional_count counts)

-- One question more is counted.
pub record CountsQuestion (old new : HeaderCounts) : Type 0 where
  pub questions : question_count new ≡ question_count old + 1
  pub answers : answer_count new ≡ answer_count old
  pub authority : authority_count new ≡ authority_count old
  pub additional : additional_count new ≡ additional_count old

-- One record more is counted, in this section.
abbrev pub CountsRecord : Section → HeaderCounts → HeaderCounts → Type 0
CountsRecord Answer old new = (question_count new ≡ question_count old) × (answer_count new ≡ answer_count old + 1) × (authority_count new ≡ authority_count old) × (additional_count new ≡ additional_count old)
CountsRecord Authority old new = (question_count new ≡ question_count old) × (answer_count new ≡ answer_count old) × (authority_count new ≡ authority_count old + 1) × (additional_count new ≡ additional_count old)
CountsRecord Additional old new = (question_count new ≡ question_count old) × (answer_count new ≡ answer_count old) × (authority_count new ≡ authority_count old) × (additional_count new ≡ additional_count old + 1)

-- No records of this section and those after it are counted.
abbrev pub CountsNone : Section → HeaderCounts → HeaderCounts → Type 0
CountsNone Answer old new = (question_count new ≡ question_count old) × (answer_count new ≡ 0) × (authority_count new ≡ 0) × (additional_count new ≡ 0)
CountsNone Authority old new = (question_count new ≡ question_count old) × (answer_count new ≡ answer_count old) × (authority_count new ≡ 0) × (additional_count new ≡ 0)
CountsNone Additional old new = (question_count new ≡ question_count old) × (answer_count new ≡ answer_count old) × (authority_count new ≡ authority_count old) × (additional_count new ≡ 0)

-- with another header
abbrev pub with_header : Header → State → State
with_header header s = record s { header = header }

-- with another number of octets set aside
abbrev pub with_reserved : ℕ → State → State
with_reserved reserved s = record s { reserved = reserved }

-- Header, limit and what is set aside are as before.
pub record SameSettings (old new : State) : Type 0 where
  pub header : new.header ≡ old.header
  pub limit : new.limit ≡ old.limit
  pub reserved : new.reserved ≡ old.reserved

-- A message was begun: a header of zeros, and no entries.
pub record IsBegun (compresses : Bool) (limit : ℕ) (s : State) : Type 0 where
  pub id : header_id s.header ≡ 0
  pub high : header_high s.header ≡ 0
  pub low : header_low s.header ≡ 0
  pub room : 12 ≤ limit
  pub limit_is : s.limit ≡ limit
  pub reserved : s.reserved ≡ 0
  pub octets : s.octets ≡ blank_header
  pub holds : Holds compresses s no_content

-- Whatever was pushed before, this question was pushed after it, and no record was there.
pub record PushesQuestion (compresses : Bool) (q : QuestionFields) (old new : State) : Type 0 where
  pub in_order : record_count old.counts ≡ 0
  pub octets : Appended (AsksIn compresses q old.octets) old.octets new.octets
  pub counts : CountsQuestion old.counts new.counts
  pub within : length new.octets + new.reserved ≤ new.limit
  pub settings : SameSettings old new
  pub holds : (it : Content) → Holds compresses old it → Holds compresses new (question_added it q)

-- Whatever was pushed before, a record with this head, and data that `May` allows, was pushed after it into this
-- section, and no later section had a record.
pub record PushesRecord (compresses : Bool) (section : Section) (head : RecordHead) (May : List ℕ → List ℕ → Type 0) (old new : State) : Type 0 where
  pub in_order : later_count section old.counts ≡ 0
  pub octets : Appended (RecordsIn compresses head May old.octets) old.octets new.octets
  pub counts : CountsRecord section old.counts new.counts
  pub within : length new.octets + new.reserved ≤ new.limit
  pub settings : SameSettings old new
  pub holds : (it : Content) → Holds compresses old it → Holds compresses new (record_added section it (record { head = head; rdata = octets.allowed.rdata }))

-- The records of this section and those after it were taken away again.
pub record Rewinds (compresses : Bool) (section : Section) (old new : State) : Type 0 where
  pub octets : new.octets ≡ take (start_of section old.starts) old.octets
  pub counts : CountsNone section old.counts new.counts
  pub settings : SameSettings old new
  pub holds : (it : Content) → Holds compresses old it → Holds compresses new (emptied section it)

-- All entries were taken away again.
pub record RewindsAll (compresses : Bool) (old new : State) : Type 0 where
  pub octets : new.octets ≡ blank_header
  pub settings : SameSettings old new
  pub holds : Holds compresses new no_content
