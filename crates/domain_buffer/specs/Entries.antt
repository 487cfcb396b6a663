-- What follows the name of a question or a record in a message, whose octets are m.
use Rattle.std.specs.Prelude.{◌≡◌, ◌⊎◌, ℕ, ◌+◌, ◌≤◌, ◌<◌, Bool, true, false, List, length}
use Rattle.domain_reading.specs.Faults.{Skips}
use Rattle.domain_header.specs.Numbers.{number16, number32}
use Rattle.domain_buffer.specs.declared.entry.Parts.{Parts}

-- The octets after the name of a question (true) or of a record (false) have these parts (RFC 1035, 4.1.2 and 4.1.3):
-- a type, a class, and of a record a TTL, the length of the data, and the data. A question has no time to live and no
-- data.
abbrev pub HasParts : List ℕ → Bool → ℕ → Parts → Type 0
HasParts m true after it =
    (it.rtype ≡ number16 m after) × (it.class ≡ number16 m (after + 2)) × (it.ttl ≡ 0)
    × (it.data_at ≡ after + 4) × (it.data_len ≡ 0) × (it.end ≡ after + 4) × (it.end ≤ length m)
HasParts m false after it =
    (it.rtype ≡ number16 m after) × (it.class ≡ number16 m (after + 2))
    × (it.ttl ≡ number32 m (after + 4))
    × (it.data_at ≡ after + 10) × (it.data_len ≡ number16 m (after + 8))
    × (it.end ≡ after + 10 + it.data_len) × (it.end ≤ length m)

-- The message ends in them.
abbrev pub LacksParts : List ℕ → Bool → ℕ → Type 0
LacksParts m true after = length m < after + 4
LacksParts m false after =
    (length m < after + 10) ⊎ ((after + 10 ≤ length m)
    × (length m < after + 10 + number16 m (after + 8)))

-- A question (true) or a record (false) is at p: a name, and these parts after it.
pub record EntryAt (m : List ℕ) (question : Bool) (p : ℕ) (it : Parts) : Type 0 where
  pub after : ℕ
  pub name : Skips m p after
  pub parts : HasParts m question after it
