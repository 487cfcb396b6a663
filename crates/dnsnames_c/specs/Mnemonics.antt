-- Types, classes and codes as text (RFC 1035, 3.2 and 4.1.1; RFC 3597, 5).
use Rattle.std.specs.Prelude.{◌≡◌, ◌⊎◌, ℕ, ◌≤◌, ◌<◌, List, Option, Some, IfSome}
use Rattle.std.specs.Str.{IsUtf8}
use Rattle.domain_header.specs.Mnemonics.{Row}
use Rattle.domain_header.specs.Numbered.{Named}
use Rattle.domain_header.specs.Tables.{text_of}
use Rattle.dnsnames_c.specs.Answers.{Gives}

-- The text of a number was given: its mnemonic in the rows, or the word and the number.
abbrev pub GivesTextOf : List Row → List ℕ → ℕ → ℕ → List ℕ → List ℕ → ℕ → Type 0
GivesTextOf rows word n status old new len = Gives (text_of rows word n) status old new len

-- The number below the bound was given that the text t names, by a row or by the word and its digits (0). Or it names
-- none below it, or isn't UTF-8 (22), and nothing changed.
abbrev pub GivesNumber : List Row → List ℕ → ℕ → List ℕ → ℕ → ℕ → ℕ → Type 0
GivesNumber rows word bound t status old new =
    ((status ≡ 0) × IsUtf8 t × Named rows word t (Some new) × (new < bound))
    ⊎ ((status ≡ 22) × IsUtf8 t × (named : Option ℕ) × Named rows word t named
    × IfSome named (λ n. bound ≤ n) × (new ≡ old))
    ⊎ ((status ≡ 22) × (IsUtf8 t → ⊥) × (new ≡ old))
