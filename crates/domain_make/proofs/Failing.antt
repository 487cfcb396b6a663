-- What has failed where no message is made of a text that was read to its end.
use Rattle.std.proofs.Common.{ℕ, List, refl, inr}
use Rattle.std.specs.Prelude.{Option}
use Rattle.std.specs.Io.KnownBytes.{IsAtEnd}
use Rattle.domain_make.specs.Made.{IsOfText}
use Rattle.domain_make.specs.Telling.{HasFailed}
use Rattle.domain_make.specs.declared.error.MakeError.{MakeError}
use Rattle.domain_make.specs.declared.error.MakeError.TheVariants.{Line, Read, Write, Memory}

pub memory_failed : {R W : Type 0} (remaining : R → Option (List ℕ)) (ReadingFailed : R → Type 0) (input : R) (WritingFailed : W → Type 0) (output : W) (e : MakeError) → IsAtEnd (remaining input) → IsOfText e
    → HasFailed remaining ReadingFailed input WritingFailed output output e
memory_failed remaining ReadingFailed input WritingFailed output (Line e) whole told = tt
memory_failed remaining ReadingFailed input WritingFailed output Read whole told = absurd told
memory_failed remaining ReadingFailed input WritingFailed output Write whole told = absurd told
memory_failed remaining ReadingFailed input WritingFailed output Memory whole told = (inr whole, refl)
