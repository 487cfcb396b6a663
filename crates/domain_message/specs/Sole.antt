-- Messages of one question.
use Rattle.std.specs.Prelude.{◌≡◌, ℕ, ◌<◌, List, codes}
use Rattle.domain_wire.specs.declared.error.ParseError.{ParseError}
use Rattle.domain_wire.specs.Refusals.{refusal, form}
use Rattle.domain_header.specs.Numbers.{number16}
use Rattle.domain_message.specs.Entries.{NoQuestion}

-- The header doesn't count one question, or it is missing, and the error says which.
pub data NoSoleQuestion (m : List ℕ) (why : ParseError) : Type 0 where
  none : number16 m 4 ≡ 0 → refusal why ≡ form (codes "no question") → NoSoleQuestion m why
  many : 1 < number16 m 4 → refusal why ≡ form (codes "multiple questions") → NoSoleQuestion m why
  missing : number16 m 4 ≡ 1 → NoQuestion m 12 why → NoSoleQuestion m why
