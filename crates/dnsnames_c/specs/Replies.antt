-- The name that CNAME records of a message's answers lead to (RFC 1034, 3.6.2).
use Rattle.std.specs.Prelude.{◌≡◌, ◌⊎◌, ◌<◌, ℕ, List, length, Some, None}
use Rattle.domain_wire.specs.declared.error.ParseError.{ParseError}
use Rattle.domain_label.specs.Wire.{wire}
use Rattle.domain_header.specs.Numbers.{number16}
use Rattle.domain_message.specs.Aliases.{IsCanonicalWithin}
use Rattle.domain_message.specs.Sections.{NoQuestions}
use Rattle.dnsnames_c.specs.Answers.{Gives}

-- At most so many CNAME records lead to no name: a question is missing, or there is none, or more of them lead on.
abbrev pub HasNoEnd : List ℕ → ℕ → Type 0
HasNoEnd m limit =
    ((why : ParseError) × NoQuestions m why) ⊎ ((number16 m 4 ≡ 0) ⊎ IsCanonicalWithin m limit None)

-- The name was given; or there is no header (1) or no such name (30), and nothing changed.
abbrev pub GivesCanonical : List ℕ → ℕ → ℕ → List ℕ → List ℕ → ℕ → ℕ → Type 0
GivesCanonical m limit status old new old_len len =
    ((length m < 12) × (status ≡ 1) × (new ≡ old) × (len ≡ old_len))
    ⊎ ((ls : List (List ℕ)) × IsCanonicalWithin m limit (Some ls)
    × Gives (wire ls) status old new len)
    ⊎ (HasNoEnd m limit × (status ≡ 30) × (new ≡ old) × (len ≡ old_len))
