-- The text of a message and of a record, in the caller's buffer.
use Rattle.std.specs.Prelude.{◌≡◌, ◌⊎◌, ℕ, List, [], ◌∷◌, ◌++◌, Option, Some, None, length, cond, nat_lt}
use Rattle.domain_wire.specs.declared.error.ParseError.{ParseError}
use Rattle.domain_wire.specs.declared.error.ParseError.TheVariants.{ShortInput, Form}
use Rattle.domain_message.specs.Entries.{RecordFields, RecordAt, NoRecord}
use Rattle.domain_lines.specs.Records.{IsRecordLine}
use Rattle.domain_lines.specs.Putting.{IsTextOf}
use Rattle.domain_lines.specs.Rooms.{HoldsText}

-- of octets that end too soon, or haven't the form of what is read
abbrev pub error_number : ParseError → ℕ
error_number ShortInput = 1
error_number (Form e) = 28

-- of a text that shows all, or ends for an error
abbrev pub end_number : Option ParseError → ℕ
end_number None = 0
end_number (Some why) = error_number why

-- of a text of `len` octets: 8 where it doesn't fit
abbrev pub shown_text_number : ℕ → Option ParseError → ℕ → ℕ
shown_text_number len why capacity = cond (nat_lt capacity len) 8 (end_number why)

-- The text is in the buffer, as far as it fits, and its size was given.
abbrev pub GivesText : List ℕ → Option ParseError → ℕ → List ℕ → List ℕ → ℕ → Type 0
GivesText text why status old new len =
    HoldsText old text new len × (status ≡ shown_text_number len why (length old))

-- The text that shows the message was given; or it wasn't made (29).
abbrev pub GivesMessageText : List ℕ → ℕ → List ℕ → List ℕ → ℕ → ℕ → Type 0
GivesMessageText m status old new old_len len =
    ((why : Option ParseError) × (text : List ℕ) × IsTextOf m why text
    × GivesText text why status old new len)
    ⊎ ((status ≡ 29) × (len ≡ old_len))

-- The line of the record at p was given; or there is none, and nothing changed; or it wasn't made (29).
abbrev pub GivesLine : List ℕ → ℕ → ℕ → List ℕ → List ℕ → ℕ → ℕ → Type 0
GivesLine m p status old new old_len len =
    ((it : RecordFields) × (end : ℕ) × (line : List ℕ) × RecordAt m p it end × IsRecordLine it line
    × GivesText (line ++ 10 ∷ []) None status old new len)
    ⊎ ((why : ParseError) × NoRecord m p why × (status ≡ error_number why) × (new ≡ old)
    × (len ≡ old_len))
    ⊎ ((status ≡ 29) × (len ≡ old_len))
