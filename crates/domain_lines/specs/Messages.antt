-- What the program writes of a message.
use Rattle.std.specs.Prelude.{◌≡◌, ℕ, ◌<◌, ◌≤◌, Bool, true, false, List, [], ◌∷◌, ◌++◌, length, drop, slice_index, cond, nat_eq, codes, Option}
use Rattle.std.specs.Fmt.{decimal}
use Rattle.std.specs.Io.KnownBytes.{Appends}
use Rattle.domain_wire.specs.declared.error.ParseError.{ParseError}
use Rattle.domain_wire.specs.declared.error.ParseError.TheVariants.{ShortInput}
use Rattle.domain_header.specs.Bits.{bits, bit}
use Rattle.domain_header.specs.Numbers.{number16}
use Rattle.domain_header.specs.Tables.{opcode_text, rcode_text, class_text}
use Rattle.domain_header.specs.Rtypes.{rtype_text}
use Rattle.domain_message.specs.Entries.{QuestionFields, QuestionAt, NoQuestion, RecordAt, NoRecord}
use Rattle.domain_message.specs.Sections.{Run, counted_records}
use Rattle.domain_message.specs.Texts.{spaced}
use Rattle.domain_message.specs.declared.section.Section.{Section}
use Rattle.domain_message.specs.declared.section.Section.TheVariants.{Answer, Authority, Additional}
use Rattle.domain_lines.specs.Flags.{flag_text}
use Rattle.domain_field_text.specs.Names.{zone_name}
use Rattle.domain_lines.specs.Records.{IsEntryText}

-- The flags that are set in the third and fourth octet of a header (RFC 1035, 4.1.1; AD and CD RFC 4035, 3.1.6 and
-- 3.2). If the bit Z is set, which must be zero, the text says this, too.
abbrev pub flags_text : ℕ → ℕ → List ℕ
flags_text high low =
    flag_text (bit 128 high) (codes " qr") ++ (flag_text (bit 4 high) (codes " aa") ++ (flag_text (bit 2 high) (codes " tc") ++ (flag_text (bit 1 high) (codes " rd")
    ++ (flag_text (bit 128 low) (codes " ra") ++ (flag_text (bit 32 low) (codes " ad") ++ (flag_text (bit 16 low) (codes " cd")
    ++ flag_text (bit 64 low) (codes "; MBZ: 0x4")))))))

-- what kind of message it is, its response code and its identifier
abbrev pub codes_line : ℕ → ℕ → ℕ → List ℕ
codes_line id high low = codes ";; opcode: " ++ (opcode_text (bits 8 16 high) ++ (codes ", status: " ++ (rcode_text (bits 1 16 low) ++ (codes ", id: " ++ decimal id))))

-- the flags, and how many entries each section has
abbrev pub counts_line : (high low questions answers authority additional : ℕ) → List ℕ
counts_line high low questions answers authority additional = codes ";; flags:" ++ (flags_text high low ++ (codes "; QUESTION: " ++ (decimal questions ++ (codes ", ANSWER: " ++ (decimal answers ++ (codes ", AUTHORITY: " ++ (decimal authority ++ (codes ", ADDITIONAL: " ++ decimal additional))))))))

-- The two lines of the header.
abbrev pub header_lines : List ℕ → List ℕ
header_lines m = (codes_line (number16 m 0) (slice_index m 2) (slice_index m 3) ++ 10 ∷ [])
    ++ (counts_line (slice_index m 2) (slice_index m 3) (number16 m 4) (number16 m 6) (number16 m 8) (number16 m 10) ++ 10 ∷ [])

-- the line above the questions
abbrev pub questions_heading : List ℕ
questions_heading = codes ";; QUESTION SECTION" ++ 10 ∷ []

-- the lines of the header, and the line above the questions
abbrev pub header_text : List ℕ → List ℕ
header_text m = header_lines m ++ questions_heading

-- the line above the records of a section
abbrev pub section_heading : Section → List ℕ
section_heading Answer = codes ";; ANSWER SECTION"
section_heading Authority = codes ";; AUTHORITY SECTION"
section_heading Additional = codes ";; ADDITIONAL SECTION"

-- the response code in the header: the lower four bits of it (RFC 1035, 4.1.1; RFC 6891, 6.1.3)
abbrev pub header_rcode : List ℕ → ℕ
header_rcode m = bits 1 16 (slice_index m 3)

-- the line of a question: name, class and type
abbrev pub zone_question : QuestionFields → List ℕ
zone_question it = spaced (zone_name it.name) (spaced (class_text it.class) (rtype_text it.rtype))

-- The line of a question, whichever are before it.
abbrev pub IsQuestionText : List QuestionFields → QuestionFields → List ℕ → Type 0
IsQuestionText before it text = text ≡ zone_question it ++ 10 ∷ []

-- After the entries before, the text has the lines of each entry, in their order.
abbrev pub AreTextsOf : {V : Type 0} → (List V → V → List ℕ → Type 0) → List V → List V → List ℕ → Type 0
AreTextsOf IsText before [] text = text ≡ []
AreTextsOf IsText before (x ∷ xs) text = (first : List ℕ) × (rest : List ℕ) × IsText before x first × AreTextsOf IsText (before ++ x ∷ []) xs rest × (text ≡ first ++ rest)

-- All n entries are at p and end before e, and the text has the lines of each.
pub record ShowsAll {V : Type 0} (At : List ℕ → ℕ → V → ℕ → Type 0) (IsText : List V → V → List ℕ → Type 0) (m : List ℕ) (p n e : ℕ) (text : List ℕ) : Type 0 where
  pub entries : List V
  pub many : length entries ≡ n
  pub run : Run At m p entries e
  pub lines : AreTextsOf IsText [] entries text

-- Fewer than n entries are at p: the text has the lines of each, and the next is missing, and why.
pub record ShowsSome {V : Type 0} (At : List ℕ → ℕ → V → ℕ → Type 0) (Fails : List ℕ → ℕ → ParseError → Type 0) (IsText : List V → V → List ℕ → Type 0) (m : List ℕ) (p n : ℕ) (text : List ℕ) (why : ParseError) : Type 0 where
  pub entries : List V
  pub few : length entries < n
  pub offset : ℕ
  pub run : Run At m p entries offset
  pub lines : AreTextsOf IsText [] entries text
  pub next : Fails m offset why

-- All n entries were put: `Puts` says so of a text.
abbrev pub WritesAll : {V : Type 0} → (List ℕ → ℕ → V → ℕ → Type 0) → (List V → V → List ℕ → Type 0) → List ℕ → ℕ → ℕ → ℕ → (List ℕ → Type 0) → Type 0
WritesAll At IsText m p n e Puts = (text : List ℕ) × ShowsAll At IsText m p n e text × Puts text

-- Some of n entries were put, and the next is missing, and why.
abbrev pub WritesSome : {V : Type 0} → (List ℕ → ℕ → V → ℕ → Type 0) → (List ℕ → ℕ → ParseError → Type 0) → (List V → V → List ℕ → Type 0) → List ℕ → ℕ → ℕ → (List ℕ → Type 0) → ParseError → Type 0
WritesSome At Fails IsText m p n Puts why = (text : List ℕ) × ShowsSome At Fails IsText m p n text why × Puts text

-- The header and all questions are shown, and the questions end before e.
abbrev pub ShowsQuestions : List ℕ → ℕ → List ℕ → Type 0
ShowsQuestions m e text = (lines : List ℕ) × (12 ≤ length m) × ShowsAll QuestionAt IsQuestionText m 12 (number16 m 4) e lines × (text ≡ header_lines m ++ questions_heading ++ lines)

-- The header and some questions are shown, and the next is missing, and why.
abbrev pub StopsAtQuestion : List ℕ → List ℕ → ParseError → Type 0
StopsAtQuestion m text why = (lines : List ℕ) × (12 ≤ length m) × ShowsSome QuestionAt NoQuestion IsQuestionText m 12 (number16 m 4) lines why × (text ≡ header_lines m ++ questions_heading ++ lines)

-- The records of a section at p, as many as the header counts, are shown under its heading, and end before e.
abbrev pub ShowsSection : List ℕ → Section → ℕ → ℕ → List ℕ → Type 0
ShowsSection m s p e text = (lines : List ℕ) × ShowsAll RecordAt (IsEntryText (header_rcode m) s) m p (counted_records m s) e lines × (text ≡ (section_heading s ++ 10 ∷ []) ++ lines)

-- Some records of a section at p are shown under its heading; the next is missing, and why.
abbrev pub StopsInSection : List ℕ → Section → ℕ → List ℕ → ParseError → Type 0
StopsInSection m s p text why = (lines : List ℕ) × ShowsSome RecordAt NoRecord (IsEntryText (header_rcode m) s) m p (counted_records m s) lines why × (text ≡ (section_heading s ++ 10 ∷ []) ++ lines)

-- All up to the end of the answers is shown.
abbrev pub ShowsAnswers : List ℕ → ℕ → List ℕ → Type 0
ShowsAnswers m e text = (p : ℕ) × (before : List ℕ) × (here : List ℕ) × ShowsQuestions m p before × ShowsSection m Answer p e here × (text ≡ before ++ here)

-- All up to the end of the authority section is shown.
abbrev pub ShowsAuthority : List ℕ → ℕ → List ℕ → Type 0
ShowsAuthority m e text = (p : ℕ) × (before : List ℕ) × (here : List ℕ) × ShowsAnswers m p before × ShowsSection m Authority p e here × (text ≡ before ++ here)

-- how many octets follow the last record
abbrev pub trailing_line : ℕ → List ℕ
trailing_line n = codes "; trailing octets: " ++ decimal n

-- the same with its newline, where octets follow
abbrev pub trailing_text : ℕ → List ℕ
trailing_text n = cond (nat_eq n 0) [] (trailing_line n ++ 10 ∷ [])

-- The additional section at p is shown, and how many octets follow it.
abbrev pub ShowsRest : List ℕ → ℕ → List ℕ → Type 0
ShowsRest m p text = (e : ℕ) × (here : List ℕ) × ShowsSection m Additional p e here × (text ≡ here ++ trailing_text (length (drop e m)))

-- The text shows the message: the header, the questions, the records of each section, and how many octets follow.
abbrev pub ShowsMessage : List ℕ → List ℕ → Type 0
ShowsMessage m text = (p : ℕ) × (before : List ℕ) × (rest : List ℕ) × ShowsAuthority m p before × ShowsRest m p rest × (text ≡ before ++ rest)

-- The message can't be shown to its end, and why, and the text shows all before that.
pub data StopsShowing (m text : List ℕ) (why : ParseError) : Type 0 where
  no_header : length m < 12 → text ≡ [] → why ≡ ShortInput → StopsShowing m text why
  no_question : StopsAtQuestion m text why → StopsShowing m text why
  no_answer : (p : ℕ) (before here : List ℕ) → ShowsQuestions m p before → StopsInSection m Answer p here why → text ≡ before ++ here → StopsShowing m text why
  no_authority : (p : ℕ) (before here : List ℕ) → ShowsAnswers m p before → StopsInSection m Authority p here why → text ≡ before ++ here → StopsShowing m text why
  no_additional : (p : ℕ) (before here : List ℕ) → ShowsAuthority m p before → StopsInSection m Additional p here why → text ≡ before ++ here → StopsShowing m text why

-- The text that shows the message was put: `Puts` says so of a text.
abbrev pub PutsMessage : List ℕ → (List ℕ → Type 0) → Type 0
PutsMessage m Puts = (text : List ℕ) × ShowsMessage m text × Puts text

-- The message can't be shown to its end, and why, and the text that shows all before that was put.
abbrev pub PutsUntil : List ℕ → ParseError → (List ℕ → Type 0) → Type 0
PutsUntil m why Puts = (text : List ℕ) × StopsShowing m text why × Puts text

-- The text that shows the message was written.
abbrev pub WritesMessage : List ℕ → Option (List ℕ) → Option (List ℕ) → Type 0
WritesMessage m old new = PutsMessage m (Appends old new)

-- The message can't be shown to its end, and why, and the text that shows all before that was written.
abbrev pub WritesUntil : List ℕ → ParseError → Option (List ℕ) → Option (List ℕ) → Type 0
WritesUntil m why old new = PutsUntil m why (Appends old new)

-- The message was written to its end, or all before what can't be shown.
abbrev pub WritesShown : List ℕ → Bool → Option (List ℕ) → Option (List ℕ) → Type 0
WritesShown m true old new = WritesMessage m old new
WritesShown m false old new = (why : ParseError) × WritesUntil m why old new
