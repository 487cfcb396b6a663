-- Messages in a stream.
use Rattle.std.specs.Prelude.{◌≡◌, ℕ, ◌+◌, ◌<◌, List, ◌++◌, length}
use Rattle.std.specs.Int.{w16, to_be_bytes}

-- a message in a stream: its length in two octets, and then its octets (RFC 1035, 4.2.2)
abbrev pub in_stream : List ℕ → List ℕ
in_stream m = to_be_bytes w16 (length m) ++ m

-- The message was appended to the stream in this form. `octets` returns the octets of a stream.
abbrev pub Streams : {S : Type 0} → (S → List ℕ) → List ℕ → S → S → Type 0
Streams octets m old new = octets new ≡ octets old ++ in_stream m

-- The same of the octets of a target that has the message.
abbrev pub StreamsFrom : {S T : Type 0} → (S → List ℕ) → (T → List ℕ) → S → S → T → Type 0
StreamsFrom octets message_of old new made = Streams octets (message_of made) old new

-- The stream has no room for the message. `room` returns how many octets fit into a stream in all.
abbrev pub StreamFull : {S : Type 0} → (S → ℕ) → (S → List ℕ) → List ℕ → S → Type 0
StreamFull room octets m old = room old < length (octets old) + 2 + length m
