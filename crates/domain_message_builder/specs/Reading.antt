-- The message that was built, as it is read (RFC 1035, 4.1).
use Rattle.std.specs.Prelude.{◌≡◌, ℕ, List, length, drop, slice_index}
use Rattle.domain_label.specs.Lowercase.{lowercase_labels}
use Rattle.domain_header.specs.Headers.{header_id, header_high, header_low}
use Rattle.domain_header.specs.Numbers.{number16}
use Rattle.domain_header.specs.declared.flags.Header.{Header}
use Rattle.domain_message.specs.Entries.{QuestionFields, QuestionAt, RecordFields, RecordAt}
use Rattle.domain_message.specs.Sections.{Run}
use Rattle.domain_message_builder.specs.Contents.{Content, PushedRecord}

-- A question is at p and ends before e that is the one which was pushed, its name ignoring ASCII case.
pub record QuestionReadAt (m : List ℕ) (p : ℕ) (q : QuestionFields) (e : ℕ) : Type 0 where
  pub name : List (List ℕ)
  pub at : QuestionAt m p (record { name = name; rtype = q.rtype; class = q.class }) e
  pub same : lowercase_labels name ≡ lowercase_labels q.name

-- A record is at p and ends before e that is the one which was pushed, its owner's name ignoring ASCII case, and the
-- octets of its data.
pub record RecordReadAt (m : List ℕ) (p : ℕ) (r : PushedRecord) (e : ℕ) : Type 0 where
  pub it : RecordFields
  pub at : RecordAt m p it e
  pub owner : lowercase_labels it.header.owner ≡ lowercase_labels r.head.owner
  pub rtype : it.header.rtype ≡ r.head.rtype
  pub class : it.header.class ≡ r.head.class
  pub ttl : it.header.ttl ≡ r.head.ttl
  pub rdlen : it.header.rdlen ≡ length r.rdata
  pub data_is : drop it.start it.octets ≡ r.rdata

-- The message m has this header, counts what was pushed, and has it in each section, in order, and nothing after it.
pub record IsMessageOf (header : Header) (it : Content) (m : List ℕ) : Type 0 where
  pub id : number16 m 0 ≡ header_id header
  pub high : slice_index m 2 ≡ header_high header
  pub low : slice_index m 3 ≡ header_low header
  pub question_count : number16 m 4 ≡ length it.questions
  pub answer_count : number16 m 6 ≡ length it.answers
  pub authority_count : number16 m 8 ≡ length it.authority
  pub additional_count : number16 m 10 ≡ length it.additional
  pub question_end : ℕ
  pub answer_end : ℕ
  pub authority_end : ℕ
  pub questions : Run QuestionReadAt m 12 it.questions question_end
  pub answers : Run RecordReadAt m question_end it.answers answer_end
  pub authority : Run RecordReadAt m answer_end it.authority authority_end
  pub additional : Run RecordReadAt m authority_end it.additional (length m)

-- What was pushed is in the message m after its header, section by section, and m ends after it. `AsksAt m p q e` says
-- that the question q is at p and ends before e. `SaysAt` says the same about a record.
pub record EntriesAt (AsksAt : List ℕ → ℕ → QuestionFields → ℕ → Type 0) (SaysAt : List ℕ → ℕ → PushedRecord → ℕ → Type 0) (it : Content) (m : List ℕ) : Type 0 where
  pub question_end : ℕ
  pub answer_end : ℕ
  pub authority_end : ℕ
  pub questions : Run AsksAt m 12 it.questions question_end
  pub answers : Run SaysAt m question_end it.answers answer_end
  pub authority : Run SaysAt m answer_end it.authority authority_end
  pub additional : Run SaysAt m authority_end it.additional (length m)
