-- Messages in a stream, as over TCP and TLS: before each of them is its length field, two octets (RFC 1035, 4.2.2; RFC
-- 7766, 8).
use Rattle.std.specs.Prelude.{◌≡◌, ℕ, zero, suc, ◌+◌, ◌*◌, ◌<◌, ◌≤◌, List, [], ◌∷◌, ◌++◌, length, drop, slice_range, nat_le, if◌then◌else◌}
use Rattle.std.specs.Int.{w16, to_be_bytes}
use Rattle.std.specs.List.{flat_map}

-- A message in a stream: its length in two octets, the high one first, and then its octets (RFC 1035, 4.2.2).
abbrev pub in_stream : List ℕ → List ℕ
in_stream m = to_be_bytes w16 (length m) ++ m

-- Messages in a stream, one after another.
abbrev pub all_in_stream : List (List ℕ) → List ℕ
all_in_stream ms = flat_map in_stream ms

-- The number in the length field that octets begin with, the high octet first; 0 while an octet of it is missing.
abbrev pub length_field : List ℕ → ℕ
length_field [] = 0
length_field (high ∷ []) = 0
length_field (high ∷ low ∷ o) = high * 256 + low

-- How many octets the first message has in a stream, with its length field; 2 while an octet of that is missing.
abbrev pub first_end : List ℕ → ℕ
first_end o = 2 + length_field o

-- The octets end before their first message does, or there are none.
abbrev pub IsIncomplete : List ℕ → Type 0
IsIncomplete o = length o < first_end o

-- The octets of the first message, without its length field, if it is complete.
abbrev pub first_octets : List ℕ → List ℕ
first_octets o = slice_range o 2 (first_end o)

-- The octets after the first message, if it is complete.
abbrev pub octets_after : List ℕ → List ℕ
octets_after o = drop (first_end o) o

-- The octets begin with a complete message m, and r is after it.
pub record BeginsWithMessage (o m r : List ℕ) : Type 0 where
  pub whole : first_end o ≤ length o
  pub message_is : m ≡ first_octets o
  pub rest_is : r ≡ octets_after o

-- The complete messages that octets begin with, n of them or as many as there are.
abbrev pub cut_messages : ℕ → List ℕ → List (List ℕ)
cut_messages zero o = []
cut_messages (suc n) o =
    if nat_le (first_end o) (length o) then first_octets o ∷ cut_messages n (octets_after o) else []

-- The octets after those messages.
abbrev pub after_messages : ℕ → List ℕ → List ℕ
after_messages zero o = o
after_messages (suc n) o = if nat_le (first_end o) (length o) then after_messages n (octets_after o) else o

-- The complete messages in octets of a stream, one after another, without their length fields.
abbrev pub messages_in : List ℕ → List (List ℕ)
messages_in o = cut_messages (length o) o

-- The octets after the complete messages: those of an incomplete one, or none.
abbrev pub rest_in : List ℕ → List ℕ
rest_in o = after_messages (length o) o

-- The messages in o are m and those in r, and the rest is that of r.
pub record HasMessageThen (o m r : List ℕ) : Type 0 where
  pub messages : messages_in o ≡ m ∷ messages_in r
  pub rest : rest_in o ≡ rest_in r
  pub fewer : length r < length o

-- No message is complete.
pub record HasNoMessage (o : List ℕ) : Type 0 where
  pub messages : messages_in o ≡ []
  pub rest : rest_in o ≡ o

-- The octets are one complete message, m, and nothing else.
pub record IsOneMessage (o m : List ℕ) : Type 0 where
  pub messages : messages_in o ≡ m ∷ []
  pub rest : rest_in o ≡ []
