-- Texts of a word and a number, as `TYPE65280` (RFC 3597, 5).
use Rattle.std.specs.Prelude.{◌≡◌, ℕ, ◌<◌, ◌++◌, List, Option, Some, None}
use Rattle.std.specs.Str.Parse.{IsNumeral, digits_value}
use Rattle.domain_label.specs.Lowercase.{lowercase}
use Rattle.domain_header.specs.Mnemonics.{Row, NumberOf}

-- The text is n, which has at most 16 bits, in decimal digits.
pub record IsDecimal (text : List ℕ) (n : ℕ) : Type 0 where
  pub digits : IsNumeral 10 text
  pub value : digits_value 10 text ≡ n
  pub fits : n < 65536

-- The text is the word, ignoring ASCII case, immediately followed by n in decimal digits.
pub record IsNumbered (word text : List ℕ) (n : ℕ) : Type 0 where
  pub first : List ℕ
  pub rest : List ℕ
  pub parts : text ≡ first ++ rest
  pub same : lowercase first ≡ lowercase word
  pub number : IsDecimal rest n

-- The number that a text names: that of its row, else that after the word. None: it names none.
pub data Named (rows : List Row) (word text : List ℕ) : Option ℕ → Type 0 where
  by_mnemonic : {n : ℕ} → NumberOf text rows (Some n) → Named rows word text (Some n)
  by_number : {n : ℕ} → NumberOf text rows None → IsNumbered word text n → Named rows word text (Some n)
  nothing : NumberOf text rows None → ((n : ℕ) → IsNumbered word text n → ⊥) → Named rows word text None
