-- Why octets are no text.
use Rattle.std.specs.Prelude.{◌≡◌, ℕ, ◌<◌, ◌≤◌, List, [], length, codes}
use Rattle.domain_wire.specs.Refusals.{Refusal, short_input, form}
use Rattle.domain_txt.specs.declared.txt.TxtError.{TxtError}
use Rattle.domain_txt.specs.declared.txt.TxtError.TheVariants.{Empty, Long, ShortInput}
use Rattle.domain_txt.specs.Strings.{EndsInside}

-- o isn't one string or more in at most 65,535 octets, and why (RFC 1035, 3.3.14 and 3.2.1).
abbrev pub HasTxtFault : List ℕ → TxtError → Type 0
HasTxtFault o Empty = o ≡ []
HasTxtFault o (Long _) = 65535 < length o
HasTxtFault o ShortInput = (length o ≤ 65535) × EndsInside o

-- the text of the error
abbrev pub txt_error_text : TxtError → List ℕ
txt_error_text Empty = codes "empty TXT record"
txt_error_text (Long _) = codes "record data too long"
txt_error_text ShortInput = codes "short input"

-- what a parser reports for it: a missing first string is short input, too
abbrev pub txt_refusal : TxtError → Refusal
txt_refusal Empty = short_input
txt_refusal (Long _) = form (codes "record data too long")
txt_refusal ShortInput = short_input
