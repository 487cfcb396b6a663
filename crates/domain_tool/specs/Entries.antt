-- What contracts see of an entry that was read: the line that it is shown as.
use Rattle.std.specs.Prelude.{◌≡◌, ◌+◌, ◌≤◌, ℕ, List, length, ◌++◌, ◌∷◌}
use Rattle.std.specs.Fmt.{decimal}
use Rattle.octseq.specs.Parsing.{message, position}
use Rattle.octseq.specs.declared.parse.Parser.{Parser}
use Rattle.domain_label.specs.Text.{text_with_final_dot}
use Rattle.domain_parsed.specs.ParsedNames.{parsed_labels}
use Rattle.domain_rdata.specs.AnyData.{unknown_text}
use Rattle.domain_rdata.specs.Rtypes.{rtype_number}
use Rattle.domain_rdata.specs.Unknown.{data_octets}
use Rattle.domain_header.specs.Numbers.{number16, number32}
use Rattle.domain_tool.specs.Lines.{NameTo, kind_word, IsQuestion, IsRecord, IsLineOf}
use Rattle.domain_tool.specs.declared.entry.Question.{Question}
use Rattle.domain_tool.specs.declared.entry.RecordHeader.{RecordHeader}
use Rattle.domain_tool.specs.declared.entry.Record.{Record}
use Rattle.domain_tool.specs.declared.entry.Entry.{Entry}
use Rattle.domain_tool.specs.declared.entry.Entry.TheVariants.{Question as AsQuestion, Record as AsRecord}
use Rattle.domain_tool.specs.declared.entry_kind.EntryKind.{EntryKind}
use Rattle.domain_tool.specs.declared.entry_kind.EntryKind.TheVariants.{Question as Questions}

-- the line of a question without its first word: name, type and class (RFC 1035, 4.1.2)
abbrev pub question_line : Question → List ℕ
question_line it = 32 ∷ text_with_final_dot (parsed_labels it.name) ++ 32 ∷ decimal (rtype_number it.rtype) ++ 32 ∷ decimal it.class

-- The name, type, class, TTL and length of a record are at p and end before e (RFC 1035, 4.1.3).
pub record IsRecordHeader (m : List ℕ) (p : ℕ) (it : RecordHeader) (e : ℕ) : Type 0 where
  pub after : ℕ
  pub name : NameTo m p (parsed_labels it.name) after
  pub rtype : it.rtype ≡ number16 m after
  pub class : it.class ≡ number16 m (after + 2)
  pub time_to_live : it.time_to_live ≡ number32 m (after + 4)
  pub len : it.len ≡ number16 m (after + 8)
  pub whole : after + 10 ≤ length m
  pub end : e ≡ after + 10

-- the line of a resource record without its first word: name, type, class, TTL and RDATA (RFC 1035, 4.1.3)
abbrev pub record_line : Record → List ℕ
record_line it = 32 ∷ text_with_final_dot (parsed_labels it.head.name) ++ 32 ∷ decimal it.head.rtype ++ 32 ∷ decimal it.head.class
    ++ 32 ∷ decimal it.head.time_to_live ++ 32 ∷ unknown_text (data_octets it.data)

-- the line of a question or a resource record: the word of its kind, then the rest
abbrev pub entry_line : Entry → List ℕ
entry_line (AsQuestion it) = kind_word Questions ++ question_line it
entry_line (AsRecord kind it) = kind_word kind ++ record_line it

-- The question that was read is where the parser was, and ends where it is then.
abbrev pub ReadsQuestion : Parser → Parser → Question → Type 0
ReadsQuestion old new it =
    IsQuestion (message old) (position old) (question_line it) (position new)

-- So does what is before the data of a record.
abbrev pub ReadsRecordHeader : Parser → Parser → RecordHeader → Type 0
ReadsRecordHeader old new it = IsRecordHeader (message old) (position old) it (position new)

-- So does a record.
abbrev pub ReadsRecord : Parser → Parser → Record → Type 0
ReadsRecord old new it = IsRecord (message old) (position old) (record_line it) (position new)

-- So does an entry of this kind.
abbrev pub ReadsEntry : EntryKind → Parser → Parser → Entry → Type 0
ReadsEntry kind old new it =
    IsLineOf (message old) kind (position old) (entry_line it) (position new)
