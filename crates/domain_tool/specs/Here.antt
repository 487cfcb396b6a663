-- That an entry isn't where a parser is.
use Rattle.octseq.specs.Parsing.{message, position}
use Rattle.octseq.specs.declared.parse.Parser.{Parser}
use Rattle.domain_wire.specs.declared.error.ParseError.{ParseError}
use Rattle.domain_tool.specs.Lines.{NoQuestionLine, NoRecordLine, NoEntry}
use Rattle.domain_tool.specs.declared.entry_kind.EntryKind.{EntryKind}

-- No question is where the parser is, and why.
abbrev pub NoQuestionHere : Parser → ParseError → Type 0
NoQuestionHere parser why = NoQuestionLine (message parser) (position parser) why

-- No record is.
abbrev pub NoRecordHere : Parser → ParseError → Type 0
NoRecordHere parser why = NoRecordLine (message parser) (position parser) why

-- No entry of this kind is.
abbrev pub NoEntryHere : EntryKind → Parser → ParseError → Type 0
NoEntryHere kind parser why = NoEntry (message parser) kind (position parser) why
