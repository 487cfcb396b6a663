-- Tables of numbers and words.
use Rattle.std.specs.Prelude.{◌≡◌, ℕ, ◌==◌, if◌then◌else◌, List, [], ◌∷◌, Option, Some, None}
use Rattle.domain_label.specs.Lowercase.{lowercase}
use Rattle.domain_header.specs.declared.mnemonic.Mnemonic.{Mnemonic}

-- a number and its word
pub record Row : Type 0 where
  pub number : ℕ
  pub word : List ℕ

-- the row of these
abbrev pub mnemonic : ℕ → List ℕ → Row
mnemonic n word = record { number = n; word = word }

-- the rows of a table of the program
abbrev pub rows_of : List Mnemonic → List Row
rows_of [] = []
rows_of (m ∷ ms) = mnemonic m.number m.word.now ∷ rows_of ms

-- the word in the first row of this number
abbrev pub word_of : List Row → ℕ → Option (List ℕ)
word_of [] n = None
word_of (row ∷ rows) n = if row.number == n then Some row.word else word_of rows n

-- The number in the first row of this word, ignoring ASCII case. None: it has no row.
pub data NumberOf (word : List ℕ) : List Row → Option ℕ → Type 0 where
  nowhere : NumberOf word [] None
  here : {r : Row} {rows : List Row} → lowercase r.word ≡ lowercase word → NumberOf word (r ∷ rows) (Some r.number)
  later : {r : Row} {rows : List Row} {found : Option ℕ} → (lowercase r.word ≡ lowercase word → ⊥) → NumberOf word rows found → NumberOf word (r ∷ rows) found
