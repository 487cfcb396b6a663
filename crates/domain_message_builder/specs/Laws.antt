-- The statements of the laws for callers.
use Rattle.std.specs.Prelude.{◌≡◌, ℕ, Bool, List, [], ◌∷◌, ◌++◌, ◌+◌, ◌<◌, ◌≤◌, length, drop, ⊤}
use Rattle.domain_label.specs.Lowercase.{lowercase_labels}
use Rattle.domain_header.specs.Numbers.{number16}
use Rattle.domain_header.specs.declared.flags.Header.{Header}
use Rattle.domain_message.specs.Entries.{QuestionFields, QuestionAt, RecordFields, RecordAt}
use Rattle.domain_message.specs.Runs.{Given}
use Rattle.domain_message.specs.Sections.{QuestionsTo, AnswersTo, AuthorityTo, RecordsTo}
use Rattle.domain_message.specs.declared.section.Section.TheVariants.{Additional}
use Rattle.domain_rdata.specs.RecordData.{NameOctets}
use Rattle.domain_reading.specs.Grammar.{Reads}
use Rattle.domain_message_builder.specs.Contents.{blank_header, PushedRecord, Content, Holds}
use Rattle.domain_message_builder.specs.Finished.{finished_octets}
use Rattle.domain_message_builder.specs.Members.{ReadBackMembers}
use Rattle.domain_message_builder.specs.Pointers.{PointsBehind, EntryPointsBehind}
use Rattle.domain_message_builder.specs.Reading.{IsMessageOf, QuestionReadAt, RecordReadAt, EntriesAt}
use Rattle.domain_message_builder.specs.State.{State}

-- As many of the one as of the other, and each is like the one with the same number.
abbrev pub Alike : {A B : Type 0} → (A → B → Type 0) → List A → List B → Type 0
Alike Like [] [] = ⊤
Alike Like [] (y ∷ ys) = ⊥
Alike Like (x ∷ xs) [] = ⊥
Alike Like (x ∷ xs) (y ∷ ys) = Like x y × Alike Like xs ys

-- The question that was pushed and the one that is read, their names ignoring ASCII case.
pub record LikeQuestion (pushed read : QuestionFields) : Type 0 where
  pub name : lowercase_labels read.name ≡ lowercase_labels pushed.name
  pub rtype : read.rtype ≡ pushed.rtype
  pub class : read.class ≡ pushed.class

-- The record that was pushed and the one that is read, its owner's name ignoring ASCII case, and the octets of its
-- data.
pub record LikeRecord (pushed : PushedRecord) (read : RecordFields) : Type 0 where
  pub owner : lowercase_labels read.header.owner ≡ lowercase_labels pushed.head.owner
  pub rtype : read.header.rtype ≡ pushed.head.rtype
  pub class : read.header.class ≡ pushed.head.class
  pub ttl : read.header.ttl ≡ pushed.head.ttl
  pub rdlen : read.header.rdlen ≡ length pushed.rdata
  pub data_is : drop read.start read.octets ≡ pushed.rdata

-- What a reader of the message gives, section by section, is what was pushed: all of it, in its order, and the message
-- ends after it.
pub record ReadsAs (it : Content) (m : List ℕ) : Type 0 where
  pub question_end : ℕ
  pub answer_end : ℕ
  pub authority_end : ℕ
  pub questions_to : QuestionsTo m question_end
  pub answers_to : AnswersTo m answer_end
  pub authority_to : AuthorityTo m authority_end
  pub additional_to : RecordsTo m Additional authority_end (length m)
  pub questions : (qs : List QuestionFields) → Given QuestionAt m 12 (number16 m 4) qs → Alike LikeQuestion it.questions qs
  pub answers : (rs : List RecordFields) → Given RecordAt m question_end (number16 m 6) rs → Alike LikeRecord it.answers rs
  pub authority : (rs : List RecordFields) → Given RecordAt m answer_end (number16 m 8) rs → Alike LikeRecord it.authority rs
  pub additional : (rs : List RecordFields) → Given RecordAt m authority_end (number16 m 10) rs → Alike LikeRecord it.additional rs

-- A reader of a message that was built gives what was pushed.
abbrev pub MessagesReadBack : Type 0
MessagesReadBack = (header : Header) (it : Content) (m : List ℕ) → IsMessageOf header it m → ReadsAs it m

-- The octets s are read where they stand after the octets t, to their end, as what is like the data. `At m p it e`:
-- what is seen so is in the octets m at p, and ends before e.
abbrev pub IsSeenAfter : {Seen : Type 0} → (List ℕ → ℕ → Seen → ℕ → Type 0) → (Seen → Type 0) → List ℕ → List ℕ → Type 0
IsSeenAfter {Seen} At Alike t s = (it : Seen) × At (t ++ s) (length t) it (length t + length s) × Alike it

-- What may be composed for a name after a blank header may be after any header of twelve octets.
abbrev pub NamesUnderAnyHeader : Type 0
NamesUnderAnyHeader = (h b s : List ℕ) (ls : List (List ℕ)) (compresses : Bool) → length h ≡ 12 → NameOctets ls compresses (blank_header ++ b) s → NameOctets ls compresses (h ++ b) s

-- While the header is blank no name is read at any of its twelve octets (RFC 1035, 4.1.1 and 4.1.4).
abbrev pub NoNameInHeader : Type 0
NoNameInHeader = (b : List ℕ) (p k : ℕ) (ls : List (List ℕ)) → p < 12 → Reads (blank_header ++ b) p k ls → ⊥

-- So no pointer leads into the header: where a name is read behind a blank header, the one that is read there under
-- any header is read through pointers to offsets of 12 or more alone.
abbrev pub NoPointerIntoHeader : Type 0
NoPointerIntoHeader = (h b : List ℕ) (p k : ℕ) (ls : List (List ℕ)) → length h ≡ 12 → 12 ≤ p → Reads (blank_header ++ b) p k ls → PointsBehind 12 (h ++ b) p

-- So is each name that may be composed after a blank header, in an entry or in data, whatever octets u follow it.
abbrev pub NamesPointBehindHeader : Type 0
NamesPointBehindHeader = (h b s u : List ℕ) (ls : List (List ℕ)) (compresses : Bool) → length h ≡ 12 → NameOctets ls compresses (blank_header ++ b) s → PointsBehind 12 (h ++ b ++ s ++ u) (length (h ++ b))

-- And in a message that was finished so is the name of each question and each owner's, from offset 12 to the end.
abbrev pub EntriesPointBehindHeader : Type 0
EntriesPointBehindHeader = (compresses : Bool) (s : State) (it : Content) → Holds compresses s it → EntriesAt (EntryPointsBehind 12 QuestionReadAt) (EntryPointsBehind 12 RecordReadAt) it (finished_octets s)

-- Whatever the header is: octets that data may be composed into after a blank header, and octets behind that, are read
-- as what is like the data where they stand in the message. `May compresses t s`: it may be composed into s after t.
abbrev pub IsSeenUnderAnyHeader : {Seen : Type 0} → (Bool → List ℕ → List ℕ → Type 0) → (List ℕ → ℕ → Seen → ℕ → Type 0) → (Seen → Type 0) → Type 0
IsSeenUnderAnyHeader May At Alike = (compresses : Bool) (header b s : List ℕ) → length header ≡ 12 → May compresses (blank_header ++ b) s → IsSeenAfter At Alike (header ++ b) s

-- So is this data: `d` is `D.ReadBackData`.
abbrev pub IsReadUnderAnyHeader : {D : Type 0} → ReadBackMembers D → D → Type 0
IsReadUnderAnyHeader d rdata = IsSeenUnderAnyHeader (d.composed rdata) (d.seen_at (d.type_number rdata)) (d.like rdata)
