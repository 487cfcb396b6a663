-- That writing failed where a call says so.
use Rattle.std.specs.Prelude.{Result, Ok, Err, ⊤}
use Rattle.domain_tool.specs.declared.tool.ToolError.{ToolError}
use Rattle.domain_tool.specs.declared.tool.ToolError.TheVariants.{Parse, Text, Read, Write, Memory}

-- The error is of writing, and this holds then. Nothing is read, and no text of a name.
abbrev pub IfWritingFailed : Result (Unit {0}) ToolError → Type 0 → Type 0
IfWritingFailed (Ok done) writing = ⊤
IfWritingFailed (Err (Parse e)) writing = ⊤
IfWritingFailed (Err (Text e)) writing = ⊥
IfWritingFailed (Err Read) writing = ⊥
IfWritingFailed (Err Write) writing = writing
IfWritingFailed (Err Memory) writing = writing
