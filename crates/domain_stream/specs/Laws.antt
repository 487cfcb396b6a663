-- What holds of messages in a stream.
use Rattle.std.specs.Prelude.{◌≡◌, ℕ, ◌<◌, ◌≤◌, List, ◌++◌, length, All}
use Rattle.domain_stream.specs.Framing.{all_in_stream, messages_in, rest_in, IsIncomplete}

-- The messages in two pieces of a stream are those in the first, and then those in the rest of the first and in the
-- second. So the same messages come, however the octets are cut into pieces.
abbrev pub AreInPieces : List ℕ → List ℕ → Type 0
AreInPieces a b =
    (messages_in (a ++ b) ≡ messages_in a ++ messages_in (rest_in a ++ b))
    × (rest_in (a ++ b) ≡ rest_in (rest_in a ++ b))

-- Messages of at most 65,535 octets each are read back from a stream. Octets of an incomplete one after them are the
-- rest.
abbrev pub AreReadBack : List (List ℕ) → List ℕ → Type 0
AreReadBack ms r =
    All (λ m. length m ≤ 65535) ms → IsIncomplete r
    → (messages_in (all_in_stream ms ++ r) ≡ ms) × (rest_in (all_in_stream ms ++ r) ≡ r)

-- Octets of a stream are its messages, as they are written, and the rest, which is incomplete: no octet is lost.
abbrev pub AreAllRead : List ℕ → Type 0
AreAllRead o = All (λ x. x < 256) o → (all_in_stream (messages_in o) ++ rest_in o ≡ o) × IsIncomplete (rest_in o)
