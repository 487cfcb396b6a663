-- Text that is put into a buffer before it is written.
use Rattle.std.specs.Prelude.{◌≡◌, List, ℕ, ◌++◌}
use Rattle.std.specs.Fmt.{HasWritten}
use Rattle.std.specs.declared.fmt.Formatter.{Formatter}

-- Of a text, all before what is left was written.
pub record HasMoved {W : Type 0} (took : W → List ℕ → W → Type 0) (f : Formatter W) (text left : List ℕ) (g : Formatter W) : Type 0 where
  pub done : List ℕ
  pub parts : text ≡ done ++ left
  pub wrote : HasWritten took f done g
