-- Octets that are written in hexadecimal digits.
use Rattle.std.specs.Prelude.{◌≡◌, ◌⊎◌, ℕ, ◌+◌, ◌*◌, ◌<◌, ◌≤◌, cond, nat_eq, List, [], ◌∷◌, ◌++◌, codes}
use Rattle.std.specs.Fmt.{decimal}
use Rattle.dnswalk.specs.declared.hexadecimal.HexFault.{HexFault}
use Rattle.dnswalk.specs.declared.hexadecimal.HexFault.TheVariants.{NoDigit, LoneDigit}

-- a space, a tab, a line feed or a carriage return
abbrev pub IsWhite : ℕ → Type 0
IsWhite c = (c ≡ 32) ⊎ (c ≡ 9) ⊎ (c ≡ 10) ⊎ (c ≡ 13)

-- The octet is the digit of x: 0 to 9, a to f or A to F.
abbrev pub IsHexDigit : ℕ → ℕ → Type 0
IsHexDigit c x = ((x < 10) × (c ≡ x + 48)) ⊎ ((10 ≤ x) × (x < 16) × (c ≡ x + 87)) ⊎ ((10 ≤ x) × (x < 16) × (c ≡ x + 55))

-- The octet is no digit.
abbrev pub IsNoHexDigit : ℕ → Type 0
IsNoHexDigit c = (x : ℕ) → IsHexDigit c x → ⊥

-- The text begins with the two digits of an octet, the high one first.
pub data BeginsWithHexOctet : (text : List ℕ) (octet : ℕ) → Type 0 where
  two_digits : {c d x y octet : ℕ} {rest : List ℕ} → IsHexDigit c x → IsHexDigit d y → octet ≡ x * 16 + y → BeginsWithHexOctet (c ∷ d ∷ rest) octet

-- The text begins with no white space and with no octet, and what is wrong, and after how many octets.
pub data BeginsWithNone : (text : List ℕ) (fault : HexFault) (skip : ℕ) → Type 0 where
  no_digit : {c : ℕ} {rest : List ℕ} → (IsWhite c → ⊥) → IsNoHexDigit c → BeginsWithNone (c ∷ rest) NoDigit 0
  no_second : {c d x : ℕ} {rest : List ℕ} → IsHexDigit c x → (IsWhite d → ⊥) → IsNoHexDigit d → BeginsWithNone (c ∷ d ∷ rest) NoDigit 1
  lone : {c d x : ℕ} {rest : List ℕ} → IsHexDigit c x → IsWhite d → BeginsWithNone (c ∷ d ∷ rest) LoneDigit 0
  last : {c x : ℕ} → IsHexDigit c x → BeginsWithNone (c ∷ []) LoneDigit 0

-- The text is these octets: two digits for each, and white space before, between and after them.
pub data IsHexText : (text octets : List ℕ) → Type 0 where
  nothing : IsHexText [] []
  white : {c : ℕ} {text octets : List ℕ} → IsWhite c → IsHexText text octets → IsHexText (c ∷ text) octets
  octet : {c d x : ℕ} {text octets : List ℕ} → BeginsWithHexOctet (c ∷ d ∷ text) x → IsHexText text octets → IsHexText (c ∷ d ∷ text) (x ∷ octets)

-- a position in a text: how many lines end before it, and how many octets of its line are before it
pub record Position : Type 0 where
  pub line : ℕ
  pub column : ℕ

-- where a text begins
abbrev pub start : Position
start = record { line = 0; column = 0 }

-- the position after n octets that end no line
abbrev pub further : ℕ → Position → Position
further n p = record { line = p.line; column = p.column + n }

-- the position after an octet: a line feed ends a line
abbrev pub position_after : ℕ → Position → Position
position_after c p = cond (nat_eq c 10) (record { line = p.line + 1; column = 0 }) (further 1 p)

-- The text, which begins at the position p, is no octets in digits: the first thing that is wrong, its line and its
-- column, both from 1 on.
pub data IsHexFault : (p : Position) (text : List ℕ) (fault : HexFault) (line column : ℕ) → Type 0 where
  here : {p : Position} {text : List ℕ} {fault : HexFault} {skip line column : ℕ} → BeginsWithNone text fault skip → line ≡ p.line + 1 → column ≡ p.column + 1 + skip → IsHexFault p text fault line column
  after_white : {p : Position} {c : ℕ} {text : List ℕ} {fault : HexFault} {line column : ℕ} → IsWhite c → IsHexFault (position_after c p) text fault line column → IsHexFault p (c ∷ text) fault line column
  after_octet : {p : Position} {c d x : ℕ} {text : List ℕ} {fault : HexFault} {line column : ℕ} → BeginsWithHexOctet (c ∷ d ∷ text) x → IsHexFault (further 2 p) text fault line column → IsHexFault p (c ∷ d ∷ text) fault line column

-- the name of what is wrong
abbrev pub hex_fault_text : HexFault → List ℕ
hex_fault_text NoDigit = codes "neither a hexadecimal digit nor white space"
hex_fault_text LoneDigit = codes "a hexadecimal digit without a second one"

-- where it is, and its name
abbrev pub hex_error_text : HexFault → ℕ → ℕ → List ℕ
hex_error_text fault line column = codes "line " ++ (decimal line ++ (codes ", column " ++ (decimal column ++ (codes ": " ++ hex_fault_text fault))))
