-- The words of a text (RFC 1035, 5.1).
use Rattle.std.specs.Prelude.{◌≡◌, ℕ, ◌-◌, Bool, List, [], ◌∷◌, ◌++◌, length, map, Result, Ok, Err, ◌==◌, ◌||◌, if◌then◌else◌}
use Rattle.std.specs.Global.{Vec}
use Rattle.domain_rdata_text.specs.declared.error.Fault.{Fault}
use Rattle.domain_rdata_text.specs.declared.error.Reason.TheVariants.{OpenQuote, LoneBackslash, Parenthesis}
use Rattle.domain_rdata_text.specs.declared.words.Mode.{Mode}
use Rattle.domain_rdata_text.specs.declared.words.Mode.TheVariants.{Bare, Slash, Quoted, QuotedSlash, Comment}
use Rattle.domain_rdata_text.specs.declared.words.Word.{Word}
use Rattle.domain_rdata_text.specs.Outcome.{fault}

-- a word, and the offset at which it begins
pub record WordAt : Type 0 where
  pub begin : ℕ
  pub octets : List ℕ

abbrev pub word : ℕ → List ℕ → WordAt
word offset os = record { begin = offset; octets = os }

-- what words of the program are
abbrev pub word_of : Word → WordAt
word_of w = word w.begin w.octets.items

-- what several words of the program are
abbrev pub words_of : List Word → List WordAt
words_of ws = map word_of ws

-- what vectors of a vector hold
abbrev pub lists : {A : Type 0} → List (Vec A) → List (List A)
lists vs = map (λ v. v.items) vs

-- These words were appended.
abbrev pub AppendedWords : {A : Type 0} → List (Vec A) → List (List A) → List (Vec A) → Type 0
AppendedWords old more new = lists new ≡ lists old ++ more

-- a space, a tab or the end of a line
abbrev pub is_blank : ℕ → Bool
is_blank c = c == 32 || c == 9 || c == 13 || c == 10

-- the offset of what is left of a text of n octets
abbrev pub place : ℕ → List ℕ → ℕ
place n rest = n - length rest

-- the words, and one more that ends before this offset, unless it has no octet
abbrev pub closed : List WordAt → List ℕ → ℕ → List WordAt
closed ws [] end = ws
closed ws (c ∷ w) end = ws ++ word (end - length (c ∷ w)) (c ∷ w) ∷ []

-- what the next octet is in, after an octet outside of quotes and after one between them
abbrev pub after_bare : ℕ → Mode
after_bare c = if c == 34 then Quoted else (if c == 92 then Slash else Bare)

abbrev pub after_quoted : ℕ → Mode
after_quoted c = if c == 34 then Bare else (if c == 92 then QuotedSlash else Quoted)

-- The words of a text of n octets, after words and an open word, which is empty where none is open. White space ends
-- a word. A semicolon begins a comment, up to the end of the line. Neither does between quotes or after a backslash,
-- which are of the word as they stand. Parentheses are refused, and so are a quote without a second one and a
-- backslash at the end.
abbrev pub split_from : ℕ → List WordAt → List ℕ → Mode → List ℕ → Result (List WordAt) Fault
split_from n ws w Bare [] = Ok (closed ws w n)
split_from n ws w Bare (c ∷ cs) =
    if is_blank c then split_from n (closed ws w (place n (c ∷ cs))) [] Bare cs
    else (if c == 59 then split_from n (closed ws w (place n (c ∷ cs))) [] Comment cs
    else (if c == 40 || c == 41 then Err (fault (place n (c ∷ cs)) Parenthesis)
    else split_from n ws (w ++ c ∷ []) (after_bare c) cs))
split_from n ws w Slash [] = Err (fault n LoneBackslash)
split_from n ws w Slash (c ∷ cs) = split_from n ws (w ++ c ∷ []) Bare cs
split_from n ws w Quoted [] = Err (fault n OpenQuote)
split_from n ws w Quoted (c ∷ cs) = split_from n ws (w ++ c ∷ []) (after_quoted c) cs
split_from n ws w QuotedSlash [] = Err (fault n OpenQuote)
split_from n ws w QuotedSlash (c ∷ cs) = split_from n ws (w ++ c ∷ []) Quoted cs
split_from n ws w Comment [] = Ok ws
split_from n ws w Comment (c ∷ cs) = if c == 10 then split_from n ws w Bare cs else split_from n ws w Comment cs

-- the words of a text
abbrev pub split : List ℕ → Result (List WordAt) Fault
split text = split_from (length text) [] [] Bare text

-- words with a space before each
abbrev pub spaced : List (List ℕ) → List ℕ
spaced [] = []
spaced (u ∷ us) = 32 ∷ (u ++ spaced us)

-- words with a space between two
abbrev pub joined : List (List ℕ) → List ℕ
joined [] = []
joined (u ∷ us) = u ++ spaced us
