-- Text in a message.
use Rattle.std.specs.Prelude.{◌≡◌, ℕ, ◌<◌, ◌≤◌, List, [], length, drop, codes}
use Rattle.domain_wire.specs.declared.error.ParseError.{ParseError}
use Rattle.domain_wire.specs.Refusals.{refusal, short_input, form}
use Rattle.domain_txt.specs.Strings.{AreStrings, string_octets, EndsInside}

-- The strings ss are all octets of m from offset p on, one string or more, and e is their end (RFC 1035, 3.3.14).
pub record TextAt (m : List ℕ) (p : ℕ) (ss : List (List ℕ)) (e : ℕ) : Type 0 where
  pub octets : drop p m ≡ string_octets ss
  pub strings : AreStrings ss
  pub some : 0 < length (drop p m)
  pub few : length (drop p m) ≤ 65535
  pub end : e ≡ length m

-- No text is at offset p, and why: there is no string, a string isn't whole, or there are more octets than a length
-- of 16 bits tells.
pub data NoText (m : List ℕ) (p : ℕ) (why : ParseError) : Type 0 where
  none : drop p m ≡ [] → refusal why ≡ short_input → NoText m p why
  cut : length (drop p m) ≤ 65535 → EndsInside (drop p m) → refusal why ≡ short_input → NoText m p why
  long : 65535 < length (drop p m) → refusal why ≡ form (codes "record data too long") → NoText m p why
