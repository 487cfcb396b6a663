-- Which stream failed, and what is answered.
use Rattle.std.proofs.Common.{◌≡◌, ℕ, List, refl, inl, inr, Option, Some, None, IfSome, Bool, true, false}
use Rattle.std.specs.Prelude.{◌⊎◌, Result, Ok, Err, IfOk, OnErr}
use Rattle.std.specs.Io.KnownBytes.{Keeps}
use Rattle.domain_tool.specs.declared.tool.ToolError.{ToolError}
use Rattle.domain_tool.specs.declared.tool.ToolError.TheVariants.{Parse, Text, Read, Write, Memory}
use Rattle.domain_wire.specs.declared.error.ParseError.{ParseError}
use Rattle.dnswalk.specs.Asked.{AsksTo, AsksForSomething, WritesAsked, WritesGiven, IsMessage, WritesAnswer}
use Rattle.domain_lines.specs.Failures.{IfWritingFailed}
use Rattle.dnswalk.specs.Hexadecimal.{start, IsHexFault}
use Rattle.dnswalk.specs.declared.engine.Asked.{Asked}
use Rattle.dnswalk.specs.declared.hexadecimal.HexFault.{HexFault}
use Rattle.domain_lines.proofs.InAndOut.{of_input}

-- The message isn't none, so writing failed.
pub failed_to_write : (e : ToolError) (writing : Type 0) → ((why : ParseError) → e ≡ Parse why → ⊥) → IfWritingFailed (Err e) writing → writing
failed_to_write (Parse why) writing other it = absurd (other why refl)
failed_to_write (Text why) writing other it = absurd it
failed_to_write Read writing other it = absurd it
failed_to_write Write writing other it = it
failed_to_write Memory writing other it = it

-- Writing failed, so one of the streams did.
pub one_failed : {T : Type 0} (r : Result T ToolError) (reading writing : Type 0) → OnErr r writing → OnErr r (reading ⊎ writing)
one_failed (Ok done) reading writing it = tt
one_failed (Err e) reading writing it = inr it

given_answer : (asked : Asked) (hex : Bool) (given : List ℕ) (found : Bool) (old new : Option (List ℕ)) → WritesGiven asked hex given found old new → WritesAnswer asked hex given found old new
given_answer asked hex given true old new it = it
given_answer asked hex given false old new it = inl it

-- What was written of the message is the answer for what was given.
pub answered_of : (asked : Asked) (hex : Bool) (items m : List ℕ) (input old new : Option (List ℕ)) (r : Result Bool ToolError) → IfSome input (λ given. items ≡ given) → IsMessage hex items m → IfOk r (λ found. WritesAsked asked m found old new) → IfOk r (λ found. IfSome input (λ given. WritesAnswer asked hex given found old new))
answered_of asked hex items m input old new (Ok found) same is written = of_input (λ given. WritesAnswer asked hex given found old new) input same refl (given_answer asked hex items found old new (m, is, written))
answered_of asked hex items m input old new (Err e) same is written = tt

keeps_same : (known : Option (List ℕ)) → Keeps known known
keeps_same None = tt
keeps_same (Some octets) = refl

-- No message is given.
pub answered_no_digits : (asked : Asked) (hex : Bool) (items : List ℕ) (input old : Option (List ℕ)) (fault : HexFault) (line column : ℕ) → IfSome input (λ given. items ≡ given) → (hex ≡ true) × IsHexFault start items fault line column → IfSome input (λ given. WritesAnswer asked hex given false old old)
answered_no_digits asked hex items input old fault line column same broken = of_input (λ given. WritesAnswer asked hex given false old old) input same refl (inr (broken.0, (fault, line, column, broken.1), keeps_same old))

-- Words that ask for nothing as they are, and for nothing with `--hex`, ask for nothing.
pub asks_neither : (words : List (List ℕ)) → ((asked : Asked) → AsksTo words asked false → ⊥) → ((asked : Asked) → AsksTo words asked true → ⊥) → AsksForSomething words → ⊥
asks_neither words octets digits (asked, false, asks) = octets asked asks
asks_neither words octets digits (asked, true, asks) = digits asked asks
