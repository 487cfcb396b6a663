-- What is reported for words that aren't what belongs there: the first fault, and the column of the part that has it.
use Rattle.std.specs.Prelude.{◌≡◌, ℕ, List, length, drop, Err, ⊤}
use Rattle.domain_descriptor.specs.Table.{known_fields}
use Rattle.domain_rdata_text.specs.Texts.{IsReadFault}
use Rattle.domain_rdata_text.specs.Words.{split}
use Rattle.domain_rdata_text.specs.declared.error.Fault.{Fault as TextFault}
use Rattle.domain_make.specs.Data.{begin_of, text_from, MeansNone}
use Rattle.domain_make.specs.Parts.{IsNameWord, IsNumber32}
use Rattle.domain_make.specs.Words.{WordAt, column_of, EndsInFinalDot}
use Rattle.domain_make.specs.declared.error.Fault.{Fault}
use Rattle.domain_make.specs.declared.error.Fault.TheVariants as fault
use Rattle.domain_make.specs.declared.error.Stop.{Stop}
use Rattle.domain_make.specs.declared.error.Stop.TheVariants.{Refused, Memory}

-- This holds of the fault and the column, where it isn't memory that lacks.
abbrev pub IfFault : Stop → (Fault → ℕ → Type 0) → Type 0
IfFault (Refused f c) P = P f c
IfFault Memory P = ⊤

-- The fault is this one, in this column.
abbrev pub Tells : Fault → ℕ → Fault → ℕ → Type 0
Tells kind column f c = (f ≡ kind) × (c ≡ column)

-- The fault is this one, in this column, and nothing of the kind is there.
abbrev pub TellsMissing : {A : Type 0} → (A → Type 0) → Fault → ℕ → Fault → ℕ → Type 0
TellsMissing {A} Says kind column f c = Tells kind column f c × ((x : A) → Says x → ⊥)

-- The fault is that of the text which begins at start in a line of n octets.
abbrev pub TellsText : ℕ → ℕ → TextFault → Fault → ℕ → Type 0
TellsText n start why f c = Tells (fault.Text why.reason) (column_of n start why.at) f c

-- The line has no words from start on, and this is why.
pub record NoWords (line : List ℕ) (start : ℕ) (f : Fault) (c : ℕ) : Type 0 where
  pub why : TextFault
  pub are : split (drop start line) ≡ Err why
  pub told : TellsText (length line) start why f c

-- The word is no absolute name: it has no final dot, or isn't the text of one.
pub data NoName (w : WordAt) (f : Fault) (c : ℕ) : Type 0 where
  no_dot : (EndsInFinalDot w.octets → ⊥) → Tells fault.NoFinalDot w.column f c → NoName w f c
  no_text : EndsInFinalDot w.octets → TellsMissing (IsNameWord w.octets) fault.Name w.column f c → NoName w f c

-- The word is no such number.
abbrev pub NoNumber32 : WordAt → Fault → ℕ → Type 0
NoNumber32 w f c = TellsMissing (IsNumber32 w.octets) fault.Number w.column f c

-- The line from these words on isn't data of this type and class, and this is why.
pub record NoData (rtype class : ℕ) (line : List ℕ) (words : List WordAt) (f : Fault) (c : ℕ) : Type 0 where
  pub why : TextFault
  pub meant : MeansNone class words → ⊥
  pub refused : IsReadFault (known_fields rtype class) (text_from line words) why
  pub told : TellsText (length line) (begin_of (length line) words) why f c
