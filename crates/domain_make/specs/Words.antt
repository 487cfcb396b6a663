-- The words of a line (RFC 1035, 5.1).
use Rattle.std.specs.Prelude.{◌≡◌, ◌≢◌, ◌⊎◌, ℕ, ◌+◌, ◌<◌, ◌≤◌, Bool, true, false, List, length, map, drop, min, slice_index, Ok}
use Rattle.domain_rdata_text.specs.Words.{WordAt as TextWord, split}
use Rattle.domain_make.specs.Steps.{Reaches}
use Rattle.domain_make.specs.declared.words.Word.{Word}

-- a word, and in which column of its line it begins, from 1 on
pub record WordAt : Type 0 where
  pub octets : List ℕ
  pub column : ℕ

-- what a word of the program is
abbrev pub word_at : Word → WordAt
word_at w = record { octets = w.octets.now; column = w.column }

-- what words of the program are
abbrev pub words_at : List Word → List WordAt
words_at words = map word_at words

-- a space, a tab or a carriage return
abbrev pub IsBlank : ℕ → Type 0
IsBlank c = (c ≡ 32) ⊎ (c ≡ 9) ⊎ (c ≡ 13)

-- the column of an offset of the text that begins at start in a line of n octets; that of its end after the last octet
abbrev pub column_of : ℕ → ℕ → ℕ → ℕ
column_of n start offset = min (start + offset) n + 1

-- a word of that text, and its column
abbrev pub placed : ℕ → ℕ → TextWord → WordAt
placed n start w = record { octets = w.octets; column = column_of n start w.begin }

-- These are the words of a line from start on.
pub record AreWords (line : List ℕ) (start : ℕ) (words : List WordAt) : Type 0 where
  pub found : List TextWord
  pub are : split (drop start line) ≡ Ok found
  pub placed_are : words ≡ map (placed (length line) start) found

-- After an offset there is one more symbol, which is a dot without a backslash before it, or not.
pub data SymbolStep (text : List ℕ) (s t : Bool × ℕ) : Type 0 where
  escaped : slice_index text s.1 ≡ 92 → s.1 + 2 ≤ length text → t ≡ (false, s.1 + 2) → SymbolStep text s t
  unescaped_dot : slice_index text s.1 ≡ 46 → t ≡ (true, s.1 + 1) → SymbolStep text s t
  other : s.1 < length text → slice_index text s.1 ≢ 92 → slice_index text s.1 ≢ 46 → t ≡ (false, s.1 + 1) → SymbolStep text s t

-- What is before an offset is symbols, and the last of them is such a dot, or not.
abbrev pub SymbolsTo : List ℕ → Bool → ℕ → Type 0
SymbolsTo text dot at = Reaches (SymbolStep text) (false, 0) (dot, at)

-- The text ends in such a dot: it is of an absolute name.
abbrev pub EndsInFinalDot : List ℕ → Type 0
EndsInFinalDot text = SymbolsTo text true (length text)
