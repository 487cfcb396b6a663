-- What a word is: a number, a name. Both are text in UTF-8.
use Rattle.std.specs.Prelude.{ℕ, ◌<◌, List}
use Rattle.std.specs.Str.{chars, IsUtf8}
use Rattle.domain_builder.specs.TextGrammar.{IsTextOfName}
use Rattle.domain_tool.specs.Numerals.{IsOffsetWord}
use Rattle.domain_make.specs.Words.{EndsInFinalDot}

-- The characters are the text of no name.
abbrev pub SpellsNoName : List ℕ → Type 0
SpellsNoName cs = (labels : List (List ℕ)) → IsTextOfName cs labels → ⊥

-- The word is the absolute name of these labels, with its final dot (RFC 1035, 5.1).
pub record IsNameWord (word : List ℕ) (labels : List (List ℕ)) : Type 0 where
  pub absolute : EndsInFinalDot word
  pub utf8 : IsUtf8 word
  pub text : IsTextOfName (chars word) labels

-- The word is the number in one to ten decimal digits, and it has at most 32 bits.
abbrev pub IsNumber32 : List ℕ → ℕ → Type 0
IsNumber32 word n = IsUtf8 word × IsOffsetWord word n

-- The same of a number below a bound.
abbrev pub IsNumberBelow : ℕ → List ℕ → ℕ → Type 0
IsNumberBelow bound word n = IsNumber32 word n × (n < bound)

-- The same of 16 bits.
abbrev pub IsNumber16 : List ℕ → ℕ → Type 0
IsNumber16 word n = IsNumber32 word n × (n < 65536)
