-- Lines that begin with a semicolon, as `dig` and `dnswalk message` write them: of a header, headings, comments.
use Rattle.std.specs.Prelude.{◌≡◌, ◌≢◌, ◌⊎◌, ℕ, ◌-◌, ◌<◌, ◌≤◌, Bool, false, cond, List, [], ◌∷◌, ◌++◌, length, take, slice_index, codes, Option, MatchOption}
use denote.Bor.{Bor}
use Rattle.domain_header.specs.Bits.{bit_of}
use Rattle.domain_header.specs.Headers.{header_id, header_high, header_low, SetsHigh, SetsLow}
use Rattle.domain_header.specs.Tables.{opcode_text, rcode_text}
use Rattle.domain_header.specs.Values.{opcode_number, rcode_number}
use Rattle.domain_header.specs.declared.flags.Header.{Header}
use Rattle.domain_message.specs.declared.section.Section.TheVariants.{Answer, Authority, Additional}
use Rattle.domain_make.specs.Stops.{Tells, TellsMissing}
use Rattle.domain_make.specs.Parts.{IsNumber16}
use Rattle.domain_make.specs.Words.{IsBlank}
use Rattle.domain_make.specs.declared.error.Fault.{Fault}
use Rattle.domain_make.specs.declared.error.Fault.TheVariants as fault
use Rattle.domain_make.specs.declared.remark.CodesTold.{CodesTold}
use Rattle.domain_make.specs.declared.remark.Flags.{Flags}
use Rattle.domain_make.specs.declared.remark.Stage.{Stage}
use Rattle.domain_make.specs.declared.remark.Stage.TheVariants.{Start, Codes, Told, Questions, Records, Options}

-- The text is the line without the white space at its end.
pub record IsTrimmed (line text : List ℕ) : Type 0 where
  pub end : ℕ
  pub text_is : text ≡ take end line
  pub within : end ≤ length line
  pub blank : (k : ℕ) → end ≤ k → k < length line → IsBlank (slice_index line k)
  pub last : 0 < end → IsBlank (slice_index line (end - 1)) → ⊥

-- The text is this beginning, and then the rest.
abbrev pub IsAfter : List ℕ → List ℕ → List ℕ → Type 0
IsAfter beginning text rest = text ≡ beginning ++ rest

-- The text begins with this.
abbrev pub BeginsWith : List ℕ → List ℕ → Type 0
BeginsWith beginning text = (rest : List ℕ) × IsAfter beginning text rest

-- The text doesn't begin with this.
abbrev pub BeginsOtherwise : List ℕ → List ℕ → Type 0
BeginsOtherwise beginning text = (rest : List ℕ) → IsAfter beginning text rest → ⊥

-- What was found is the rest of which this is said; where nothing was found there is none.
abbrev pub FindsRest : (List ℕ → Type 0) → Option (Bor (List ℕ)) → Type 0
FindsRest IsRest found = MatchOption found ((rest : List ℕ) → IsRest rest → ⊥) (λ rest. IsRest rest.now)

-- The text has no octet like this one.
abbrev pub HasNoOctet : ℕ → List ℕ → Type 0
HasNoOctet octet text = (k : ℕ) → k < length text → slice_index text k ≢ octet

-- The first line of a header, and what it has after its beginning.
abbrev pub IsCodesLine : List ℕ → List ℕ → Type 0
IsCodesLine text rest = (text ≡ codes ";; opcode: " ++ rest) ⊎ (text ≡ codes ";; ->>HEADER<<- opcode: " ++ rest)

-- The text is a kind of query, a response code and an identifier: `QUERY, status: NOERROR, id: 1`.
pub record AreCodes (text : List ℕ) (opcode rcode id : ℕ) : Type 0 where
  pub digits : List ℕ
  pub text_is : text ≡ opcode_text opcode ++ (codes ", status: " ++ (rcode_text rcode ++ (codes ", id: " ++ digits)))
  pub small_opcode : opcode < 16
  pub small_rcode : rcode < 16
  pub id_is : IsNumber16 digits id

-- The text is that of the kind of query of this number.
abbrev pub IsOpcodeText : List ℕ → ℕ → Type 0
IsOpcodeText text n = (n < 16) × (text ≡ opcode_text n)

-- The text is that of the response code of this number.
abbrev pub IsRcodeText : List ℕ → ℕ → Type 0
IsRcodeText text n = (n < 16) × (text ≡ rcode_text n)

-- The text states the kind of query, the response code and the identifier of `told`.
abbrev pub AreTold : List ℕ → CodesTold → Type 0
AreTold text told = AreCodes text (opcode_number told.opcode) (rcode_number told.rcode) told.id

-- A part of a line of a header isn't what stands there.
abbrev pub LacksPart : {A : Type 0} → (A → Type 0) → Fault → ℕ → Type 0
LacksPart Says f c = TellsMissing Says fault.Header 1 f c

-- The text isn't such codes and an identifier.
abbrev pub LacksCodes : List ℕ → Fault → ℕ → Type 0
LacksCodes text f c = Tells fault.Header 1 f c × ((opcode rcode id : ℕ) → AreCodes text opcode rcode id → ⊥)

-- Identifier, kind of query and response code were set, and nothing else.
pub record SetsCodes (opcode rcode id : ℕ) (old new : Header) : Type 0 where
  pub first : Header
  pub second : Header
  pub id_set : header_id first ≡ id
  pub high : header_high first ≡ header_high old
  pub low : header_low first ≡ header_low old
  pub opcode_set : SetsHigh 8 16 opcode first second
  pub rcode_set : SetsLow 1 16 rcode second new

-- They were set as `told` states, and nothing else.
abbrev pub SetsTold : CodesTold → Header → Header → Type 0
SetsTold told old new = SetsCodes (opcode_number told.opcode) (rcode_number told.rcode) told.id old new

-- each flag and its word, in the order in which they are written, and the bit Z, which must be zero
abbrev pub flag_words : Flags → List (Bool × List ℕ)
flag_words f = (f.qr, codes " qr") ∷ (f.aa, codes " aa") ∷ (f.tc, codes " tc") ∷ (f.rd, codes " rd") ∷ (f.ra, codes " ra") ∷ (f.ad, codes " ad")
    ∷ (f.cd, codes " cd") ∷ (f.z, codes "; MBZ: 0x4") ∷ []

-- the words of those that are set, and then a text
abbrev pub words_before : List (Bool × List ℕ) → List ℕ → List ℕ
words_before [] rest = rest
words_before (flag ∷ flags) rest = cond flag.0 flag.1 [] ++ words_before flags rest

-- The text begins with flags and a semicolon: ` qr rd; QUESTION: 1`. What follows isn't looked at, but that it isn't
-- the bit Z.
pub record BeginsWithFlags (text : List ℕ) (f : Flags) : Type 0 where
  pub rest : List ℕ
  pub text_is : text ≡ words_before (flag_words f) (codes "; " ++ rest)
  pub no_z : f.z ≡ false → (more : List ℕ) → rest ≡ codes "MBZ: 0x4" ++ more → ⊥

-- The flags were set or cleared, one after the other, and nothing else.
pub record SetsFlags (f : Flags) (old new : Header) : Type 0 where
  pub headers : Header × Header × Header × Header × Header × Header × Header
  pub qr : SetsHigh 128 2 (bit_of f.qr) old headers.0
  pub aa : SetsHigh 4 2 (bit_of f.aa) headers.0 headers.1
  pub tc : SetsHigh 2 2 (bit_of f.tc) headers.1 headers.2
  pub rd : SetsHigh 1 2 (bit_of f.rd) headers.2 headers.3
  pub ra : SetsLow 128 2 (bit_of f.ra) headers.3 headers.4
  pub ad : SetsLow 32 2 (bit_of f.ad) headers.4 headers.5
  pub cd : SetsLow 16 2 (bit_of f.cd) headers.5 headers.6
  pub z : SetsLow 64 2 (bit_of f.z) headers.6 new

-- The line is this, with a colon at its end or without.
abbrev pub IsWithColon : List ℕ → List ℕ → Type 0
IsWithColon heading text = (text ≡ heading) ⊎ (text ≡ heading ++ codes ":")

-- The line is the heading of what follows it.
pub data IsHeading (text : List ℕ) : (stage : Stage) → Type 0 where
  questions : IsWithColon (codes ";; QUESTION SECTION") text → IsHeading text Questions
  answers : IsWithColon (codes ";; ANSWER SECTION") text → IsHeading text (Records Answer)
  authority : IsWithColon (codes ";; AUTHORITY SECTION") text → IsHeading text (Records Authority)
  additional : IsWithColon (codes ";; ADDITIONAL SECTION") text → IsHeading text (Records Additional)

-- The line begins as the second one of a header, and has this after it.
abbrev pub IsFlagsLine : List ℕ → List ℕ → Type 0
IsFlagsLine text rest = text ≡ codes ";; flags:" ++ rest

-- The line ends as a heading does.
abbrev pub EndsInSection : List ℕ → Type 0
EndsInSection text = (front : List ℕ) × IsWithColon (front ++ codes " SECTION") text

-- The line begins as one of an OPT record.
abbrev pub BeginsAsOpt : List ℕ → Type 0
BeginsAsOpt text = (rest : List ℕ) × ((text ≡ codes "; EDNS:" ++ rest) ⊎ (text ≡ codes "; OPT=" ++ rest) ⊎ (text ≡ codes "; \\# " ++ rest))

-- The line is refused: it ends as a heading, and is none of a section; or else it begins as one of an OPT record.
abbrev pub IsRefusedRemark : List ℕ → Fault → Type 0
IsRefusedRemark text f =
    (EndsInSection text × (f ≡ fault.Heading)) ⊎ ((EndsInSection text → ⊥) × BeginsAsOpt text × (f ≡ fault.Opt))

-- The line is another one: a comment. It is none of a header, no heading, and none of an OPT record.
pub record IsComment (text : List ℕ) : Type 0 where
  pub no_codes : (rest : List ℕ) → IsCodesLine text rest → ⊥
  pub no_flags : (rest : List ℕ) → IsFlagsLine text rest → ⊥
  pub no_heading : (stage : Stage) → IsHeading text stage → ⊥
  pub no_section : EndsInSection text → ⊥
  pub no_opt : BeginsAsOpt text → ⊥

-- where a line is that is none of an OPT record: records of the additional section follow the lines of one
abbrev pub settled : Stage → Stage
settled Start = Start
settled Codes = Codes
settled Told = Told
settled Questions = Questions
settled (Records section) = Records section
settled Options = Records Additional

-- After a stage and a header, the line leads to the next stage and the new header.
pub data Remarks (text : List ℕ) (stage : Stage) (old : Header) : (next : Stage) (new : Header) → Type 0 where
  codes_told : {new : Header} (rest : List ℕ) (opcode rcode id : ℕ) → stage ≡ Start → IsCodesLine text rest → AreCodes rest opcode rcode id → SetsCodes opcode rcode id old new → Remarks text stage old Codes new
  flags_told : {new : Header} (rest : List ℕ) (f : Flags) → (stage ≡ Start) ⊎ (stage ≡ Codes) → IsFlagsLine text rest → BeginsWithFlags rest f → SetsFlags f old new → Remarks text stage old Told new
  heading : {next : Stage} → IsHeading text next → Remarks text stage old next old
  comment : IsComment text → Remarks text stage old (settled stage) old
