-- Tags of properties (RFC 8659, 4.1).
use Rattle.std.specs.Prelude.{◌≡◌, ℕ, ◌<◌, true, List, length, codes}
use Rattle.std.specs.Char.{is_ascii_alphanumeric}
use Rattle.std.specs.List.{list_all}
use Rattle.domain_wire.specs.Refusals.{refusal, form}
use Rattle.domain_wire.specs.declared.error.ParseError.{ParseError}
use Rattle.domain_strings.specs.CharStrings.{CharStringAt, NoCharString}

-- A tag is letters and digits, one or more.
abbrev pub IsTag : List ℕ → Type 0
IsTag s = (0 < length s) × (list_all is_ascii_alphanumeric s ≡ true)

-- The tag s is at offset p, and e is its end.
pub record TagAt (m : List ℕ) (p : ℕ) (s : List ℕ) (e : ℕ) : Type 0 where
  pub string : CharStringAt m p s e
  pub tag : IsTag s

-- No character string is at offset p, or one that is no tag, and why.
pub data NoTag (m : List ℕ) (p : ℕ) (why : ParseError) : Type 0 where
  no_string : NoCharString m p why → NoTag m p why
  no_tag : (s : List ℕ) (e : ℕ) → CharStringAt m p s e → (IsTag s → ⊥) → refusal why ≡ form (codes "invalid tag") → NoTag m p why
