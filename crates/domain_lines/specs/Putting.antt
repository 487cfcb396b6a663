-- What a call leaves in the caller's buffer.
use Rattle.std.specs.Prelude.{◌≡◌, ℕ, List, [], ◌∷◌, ◌++◌, Option, Some, None}
use Rattle.domain_wire.specs.declared.error.ParseError.{ParseError}
use Rattle.domain_message.specs.Entries.{RecordFields, RecordAt, NoRecord}
use Rattle.domain_lines.specs.Messages.{ShowsMessage, StopsShowing}
use Rattle.domain_lines.specs.Records.{IsRecordLine}
use Rattle.domain_lines.specs.Rooms.{HoldsText}
use Rattle.domain_lines.specs.declared.put.PutText.{PutText}

-- The text shows the message, to its end (None), or up to what can't be shown, and why.
abbrev pub IsTextOf : List ℕ → Option ParseError → List ℕ → Type 0
IsTextOf m None text = ShowsMessage m text
IsTextOf m (Some why) text = StopsShowing m text why

-- The buffer has such a text, as far as it fits.
abbrev pub PutsShown : List ℕ → Option ParseError → List ℕ → List ℕ → ℕ → Type 0
PutsShown m why old new len = (text : List ℕ) × IsTextOf m why text × HoldsText old text new len

-- The buffer has the line of the record at p, and a newline.
abbrev pub PutsRecord : List ℕ → ℕ → List ℕ → List ℕ → ℕ → Type 0
PutsRecord m p old new len = (it : RecordFields) × (end : ℕ) × (line : List ℕ) × RecordAt m p it end × IsRecordLine it line × HoldsText old (line ++ 10 ∷ []) new len

-- What a record at p came to: its line was put (None); or there is none, and why, and the buffer is unchanged.
abbrev pub PutsRecordOrNot : List ℕ → ℕ → Option ParseError → List ℕ → List ℕ → ℕ → Type 0
PutsRecordOrNot m p None old new len = PutsRecord m p old new len
PutsRecordOrNot m p (Some why) old new len = NoRecord m p why × (new ≡ old) × (len ≡ 0)

-- What is returned for a message that was put: how many octets the text has, and why it ends before the message does.
abbrev pub MessagePut : List ℕ → List ℕ → List ℕ → PutText → Type 0
MessagePut m old new put = PutsShown m put.why old new put.len

-- What is returned for a record at p that was put: how many octets its line has, or why there is none.
abbrev pub RecordPut : List ℕ → ℕ → List ℕ → List ℕ → PutText → Type 0
RecordPut m p old new put = PutsRecordOrNot m p put.why old new put.len
