-- The lines of a message (RFC 1035, 4.1): one for each entry, in the order in which they are there.
use Rattle.std.specs.Prelude.{◌≡◌, ℕ, ◌+◌, ◌<◌, ◌≤◌, ◌⊎◌, List, [], ◌∷◌, ◌++◌, length, replicate, slice_range, codes}
use Rattle.std.specs.Fmt.{decimal}
use Rattle.domain_wire.specs.declared.error.ParseError.{ParseError}
use Rattle.domain_wire.specs.declared.error.ParseError.TheVariants.{ShortInput}
use Rattle.domain_label.specs.Text.{text_with_final_dot}
use Rattle.domain_reading.specs.Grammar.{Names, EncodingEnds}
use Rattle.domain_reading.specs.Limits.{max_pointers}
use Rattle.domain_header.specs.Numbers.{number16, number32}
use Rattle.domain_rdata.specs.AnyData.{unknown_text}
use Rattle.domain_tool.specs.NameFaults.{NoNameAt}
use Rattle.domain_tool.specs.declared.entry_kind.EntryKind.{EntryKind}
use Rattle.domain_tool.specs.declared.entry_kind.EntryKind.TheVariants.{Question, Answer, Authority, Additional}

-- what the lines of a kind begin with
abbrev pub kind_word : EntryKind → List ℕ
kind_word Question = codes "question"
kind_word Answer = codes "answer"
kind_word Authority = codes "authority"
kind_word Additional = codes "additional"

-- The name at p is ls, and e is the offset after it (RFC 1035, 4.1.4).
pub record NameTo (m : List ℕ) (p : ℕ) (ls : List (List ℕ)) (e : ℕ) : Type 0 where
  pub named : Names max_pointers m p ls
  pub front : EncodingEnds m p e

-- What is shown of the name, the type and the class of an entry: the two numbers are at q, after the name.
abbrev pub shown_entry : List ℕ → List (List ℕ) → ℕ → List ℕ
shown_entry m ls q = 32 ∷ text_with_final_dot ls ++ 32 ∷ decimal (number16 m q) ++ 32 ∷ decimal (number16 m (q + 2))

-- What is shown of the rest of a record, whose type is at q: the TTL in 32 bits, and the data after its length.
abbrev pub shown_record : List ℕ → ℕ → List ℕ
shown_record m q = 32 ∷ decimal (number32 m (q + 4)) ++ 32 ∷ unknown_text (slice_range m (q + 10) (q + 10 + number16 m (q + 8)))

-- A question is at p and ends before e (RFC 1035, 4.1.2).
pub record IsQuestion (m : List ℕ) (p : ℕ) (line : List ℕ) (e : ℕ) : Type 0 where
  pub labels : List (List ℕ)
  pub after : ℕ
  pub name : NameTo m p labels after
  pub whole : after + 4 ≤ length m
  pub end : e ≡ after + 4
  pub shown : line ≡ shown_entry m labels after

-- A record is at p and ends before e (RFC 1035, 4.1.3).
pub record IsRecord (m : List ℕ) (p : ℕ) (line : List ℕ) (e : ℕ) : Type 0 where
  pub labels : List (List ℕ)
  pub after : ℕ
  pub name : NameTo m p labels after
  pub whole : after + 10 + number16 m (after + 8) ≤ length m
  pub end : e ≡ after + 10 + number16 m (after + 8)
  pub shown : line ≡ shown_entry m labels after ++ shown_record m after

-- No question is at p, and why: no name is there, or the message ends before the question does.
pub data NoQuestionLine (m : List ℕ) (p : ℕ) (why : ParseError) : Type 0 where
  no_name : NoNameAt m p why → NoQuestionLine m p why
  cut : (ls : List (List ℕ)) (q : ℕ) → NameTo m p ls q → length m < q + 4 → why ≡ ShortInput → NoQuestionLine m p why

-- No record is at p, and why.
pub data NoRecordLine (m : List ℕ) (p : ℕ) (why : ParseError) : Type 0 where
  no_name : NoNameAt m p why → NoRecordLine m p why
  cut : (ls : List (List ℕ)) (q : ℕ) → NameTo m p ls q → (length m < q + 10) ⊎ (length m < q + 10 + number16 m (q + 8)) → why ≡ ShortInput → NoRecordLine m p why

-- An entry of this kind is at p and ends before e, and is shown so.
abbrev pub IsEntry : List ℕ → EntryKind → ℕ → List ℕ → ℕ → Type 0
IsEntry m Question p line e = IsQuestion m p line e
IsEntry m Answer p line e = IsRecord m p line e
IsEntry m Authority p line e = IsRecord m p line e
IsEntry m Additional p line e = IsRecord m p line e

-- No entry of this kind is at p, and why.
abbrev pub NoEntry : List ℕ → EntryKind → ℕ → ParseError → Type 0
NoEntry m Question p why = NoQuestionLine m p why
NoEntry m Answer p why = NoRecordLine m p why
NoEntry m Authority p why = NoRecordLine m p why
NoEntry m Additional p why = NoRecordLine m p why

-- An entry of this kind is at p and ends before e, and this is its line: the word of the kind, and what is shown
-- of the entry.
abbrev pub IsLineOf : List ℕ → EntryKind → ℕ → List ℕ → ℕ → Type 0
IsLineOf m s p line e = (shown : List ℕ) × IsEntry m s p shown e × (line ≡ kind_word s ++ shown)

-- Entries of these kinds are at p and end before e, one after the other, and these are their lines.
unfoldable pub Lists : List ℕ → List EntryKind → ℕ → List ℕ → ℕ → Type 0
Lists m [] p text e = (text ≡ []) × (e ≡ p)
Lists m (s ∷ ss) p text e = (line : List ℕ) × (q : ℕ) × (rest : List ℕ) × IsLineOf m s p line q
    × (text ≡ (line ++ 10 ∷ []) ++ rest) × Lists m ss q rest e

-- The entries that the header counts (RFC 1035, 4.1.1).
abbrev pub counted_entries : List ℕ → List EntryKind
counted_entries m = replicate (number16 m 4) Question
    ++ (replicate (number16 m 6) Answer ++ (replicate (number16 m 8) Authority ++ replicate (number16 m 10) Additional))

-- The header is there, and so are all entries that it counts, from the offset after it on. These are their lines.
abbrev pub IsListing : List ℕ → List ℕ → Type 0
IsListing m text = (12 ≤ length m) × (e : ℕ) × Lists m (counted_entries m) 12 text e

-- An entry that the header counts isn't there. The lines are those of the entries before it, and the error says why.
pub record StopsAtEntry (m : List ℕ) (text : List ℕ) (why : ParseError) : Type 0 where
  pub header : 12 ≤ length m
  pub before : List EntryKind
  pub kind : EntryKind
  pub after : List EntryKind
  pub all : counted_entries m ≡ before ++ kind ∷ after
  pub offset : ℕ
  pub listed : Lists m before 12 text offset
  pub missing : NoEntry m kind offset why

-- The header or an entry isn't there.
pub data StopsListing (m : List ℕ) (text : List ℕ) (why : ParseError) : Type 0 where
  no_header : length m < 12 → text ≡ [] → why ≡ ShortInput → StopsListing m text why
  no_entry : StopsAtEntry m text why → StopsListing m text why
