-- What contracts say of the lines that were put. `Puts` says so of a text, as `W.takes output.old output.new` does;
-- `g` is `W.Sink`.
use Rattle.std.specs.Prelude.{◌≡◌, ℕ, Bool, List, [], ◌∷◌, ◌++◌}
use Rattle.std.specs.List.{list_any}
use Rattle.octseq.specs.Parsing.{message, position}
use Rattle.octseq.specs.declared.parse.Parser.{Parser}
use Rattle.domain_wire.specs.declared.error.ParseError.{ParseError}
use Rattle.domain_header.specs.Values.{rcode_number}
use Rattle.domain_header.specs.declared.code.Rcode.{Rcode}
use Rattle.domain_message.specs.Entries.{QuestionAt, NoQuestion, RecordFields, RecordAt, NoRecord}
use Rattle.domain_message.specs.RecordModel.{record_fields}
use Rattle.domain_message.specs.declared.record.ParsedRecord.{ParsedRecord}
use Rattle.domain_message.specs.declared.section.Section.{Section}
use Rattle.domain_lines.specs.Edns.{AreOptionLines}
use Rattle.domain_lines.specs.declared.streams.Sink.{Ghosts as SinkMembers}
use Rattle.domain_lines.specs.Messages.{IsQuestionText, WritesAll, WritesSome, ShowsQuestions, ShowsAnswers, ShowsAuthority, ShowsSection, StopsInSection, ShowsRest, PutsUntil}
use Rattle.domain_lines.specs.Records.{IsRecordLine, is_opt_in, IsOptText, IsEntryText}

-- What shows this was put.
abbrev pub Wrote : (List ℕ → Type 0) → (List ℕ → Type 0) → Type 0
Wrote Shows Puts = (text : List ℕ) × Shows text × Puts text

-- The line of the record was put, and a newline.
abbrev pub PutsLine : ParsedRecord → (List ℕ → Type 0) → Type 0
PutsLine found Puts = (line : List ℕ) × IsRecordLine (record_fields found) line × Puts (line ++ 10 ∷ [])

-- A line for each option of an OPT record was put, and one for octets at the end that are no whole option.
abbrev pub PutsOptions : {W : Type 0} → List ℕ → SinkMembers W → W → W → Type 0
PutsOptions octets g before after = Wrote (AreOptionLines octets) (g.takes before after)

-- The lines of an OPT record were put, under a header with this response code: of another one, or of the first.
abbrev pub PutsOpt : {W : Type 0} → Rcode → Bool → ParsedRecord → SinkMembers W → W → W → Type 0
PutsOpt rcode another found g before after =
    Wrote (IsOptText (rcode_number rcode) another (record_fields found)) (g.takes before after)

-- After other records, among which is an OPT record or not, what shows the record of a section was put.
abbrev pub PutsEntry : {W : Type 0} → Rcode → Section → Bool → ParsedRecord → SinkMembers W → W → W → Type 0
PutsEntry rcode section opt_seen found g before after =
    (others : List RecordFields) → opt_seen ≡ list_any (is_opt_in section) others
    → Wrote (IsEntryText (rcode_number rcode) section others (record_fields found)) (g.takes before after)

-- Whether an OPT record is among the records before and this one, if it is known of those before.
abbrev pub TellsOpt : Section → Bool → ParsedRecord → Bool → Type 0
TellsOpt section opt_seen found seen =
    (before : List RecordFields) → opt_seen ≡ list_any (is_opt_in section) before → seen ≡ list_any (is_opt_in section) (before ++ record_fields found ∷ [])

-- The lines of n questions were put, which are where the parser was and end where it is then.
abbrev pub PutsQuestions : {W : Type 0} → Parser → ℕ → Parser → SinkMembers W → W → W → Type 0
PutsQuestions old n new g before after =
    WritesAll QuestionAt IsQuestionText (message old) (position old) n (position new) (g.takes before after)

-- The lines of fewer than n questions were put, and the next is missing, and why.
abbrev pub FewerAsked : {W : Type 0} → Parser → ℕ → SinkMembers W → W → W → ParseError → Type 0
FewerAsked old n g before after why =
    WritesSome QuestionAt NoQuestion IsQuestionText (message old) (position old) n (g.takes before after) why

-- What shows n records of a section was put, which are where the parser was and end where it is then.
abbrev pub PutsRecords : {W : Type 0} → Rcode → Section → Parser → ℕ → Parser → SinkMembers W → W → W → Type 0
PutsRecords rcode section old n new g before after =
    WritesAll RecordAt (IsEntryText (rcode_number rcode) section) (message old) (position old) n (position new)
    (g.takes before after)

-- What shows fewer than n records of a section was put, and the next is missing, and why.
abbrev pub FewerRecords : {W : Type 0} → Rcode → Section → Parser → ℕ → SinkMembers W → W → W → ParseError → Type 0
FewerRecords rcode section old n g before after why =
    WritesSome RecordAt NoRecord (IsEntryText (rcode_number rcode) section) (message old) (position old) n
    (g.takes before after) why

-- A section of records was put under its heading, from where the parser was to where it is then.
abbrev pub PutsSection : {W : Type 0} → Section → Parser → Parser → SinkMembers W → W → W → Type 0
PutsSection section old new g before after =
    Wrote (ShowsSection (message old) section (position old) (position new)) (g.takes before after)

-- Some records of a section were put under its heading, and the next is missing, and why.
abbrev pub StopsIn : {W : Type 0} → Section → Parser → SinkMembers W → W → W → ParseError → Type 0
StopsIn section old g before after why =
    (text : List ℕ) × StopsInSection (message old) section (position old) text why × g.takes before after text

-- The header and all questions were put, and these end where the parser is then.
abbrev pub PutsAsked : {W : Type 0} → Parser → Parser → SinkMembers W → W → W → Type 0
PutsAsked old new g before after = Wrote (ShowsQuestions (message old) (position new)) (g.takes before after)

-- The same of all up to the end of the answers.
abbrev pub PutsAnswers : {W : Type 0} → Parser → Parser → SinkMembers W → W → W → Type 0
PutsAnswers old new g before after = Wrote (ShowsAnswers (message old) (position new)) (g.takes before after)

-- The same of all up to the end of the authority section.
abbrev pub PutsAuthority : {W : Type 0} → Parser → Parser → SinkMembers W → W → W → Type 0
PutsAuthority old new g before after =
    Wrote (ShowsAuthority (message old) (position new)) (g.takes before after)

-- The additional section was put, from where the parser was, and how many octets follow it.
abbrev pub PutsRest : {W : Type 0} → Parser → SinkMembers W → W → W → Type 0
PutsRest old g before after = Wrote (ShowsRest (message old) (position old)) (g.takes before after)

-- The message can't be shown to its end, and why, and the text that shows all before that was put.
abbrev pub PutsPart : List ℕ → (List ℕ → Type 0) → ParseError → Type 0
PutsPart m Puts why = PutsUntil m why Puts

-- The same of the message that is parsed.
abbrev pub PutsPartOf : {W : Type 0} → Parser → SinkMembers W → W → W → ParseError → Type 0
PutsPartOf parser g before after why = PutsUntil (message parser) why (g.takes before after)
