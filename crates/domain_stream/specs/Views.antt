-- What contracts see of an iterator over messages, and of a reader.
use denote.Bor.{Bor}
use Rattle.std.specs.Prelude.{◌≡◌, ℕ, ◌<◌, ◌≤◌, List, ◌++◌, Option, Some, None}
use Rattle.octseq.specs.declared.octets.Octets.{Ghosts}
use Rattle.octseq.specs.Appending.{LacksSpare}
use Rattle.domain_stream.specs.Framing.{length_field, IsIncomplete, BeginsWithMessage, messages_in, HasMessageThen, HasNoMessage}
use Rattle.domain_stream.specs.Readers.{count_taken, TakesOctets}
use Rattle.domain_stream.specs.declared.error.StreamError.{StreamError}
use Rattle.domain_stream.specs.declared.error.StreamError.TheVariants.{Append, Oversized}
use Rattle.domain_stream.specs.declared.messages.StreamMessages.{StreamMessages}
use Rattle.domain_stream.specs.declared.reader.StreamReader.{StreamReader}

-- the octets whose messages an iterator still gives
abbrev pub stream_left : StreamMessages → List ℕ
stream_left it = it.octets.now

-- the messages that an iterator still gives
abbrev pub messages_left : StreamMessages → List (List ℕ)
messages_left it = messages_in (stream_left it)

-- A call of `next` returned the first message, and exactly the octets after it are left; or `None`: no message is
-- complete, and all octets are left.
abbrev pub GivesMessage : StreamMessages → Option (Bor (List ℕ)) → StreamMessages → Type 0
GivesMessage old None new =
    IsIncomplete (stream_left old) × HasNoMessage (stream_left old) × (stream_left new ≡ stream_left old)
GivesMessage old (Some m) new =
    BeginsWithMessage (stream_left old) m.now (stream_left new)
    × HasMessageThen (stream_left old) m.now (stream_left new)

-- the octets that a reader holds: those of one message with its length field, complete or not
abbrev pub held_octets : {O : Type 0} {g : Ghosts O} → StreamReader O g → List ℕ
held_octets {g = g} it = g.octets it.buffer

-- the most octets that a message has for a reader
abbrev pub most_octets_of : {O : Type 0} {g : Ghosts O} → StreamReader O g → ℕ
most_octets_of it = it.limit

-- how many octets a reader has room for, those that it holds included
abbrev pub reader_room : {O : Type 0} {g : Ghosts O} → StreamReader O g → ℕ
reader_room {g = g} it = g.capacity it.buffer

-- A reader took n octets of a piece.
abbrev pub TakesPiece : {O : Type 0} {g : Ghosts O} → StreamReader O g → List ℕ → StreamReader O g → ℕ → Type 0
TakesPiece old piece new n =
    TakesOctets (most_octets_of old) (held_octets old) piece n (held_octets new)

-- Why it took none: the message is longer than the limit; else there are octets, and the buffer has no room for them.
abbrev pub PieceNotTaken : {O E : Type 0} {g : Ghosts O} → List ℕ → StreamReader O g → StreamError E → Type 0
PieceNotTaken {g = g} piece reader (Append _) =
    (length_field (held_octets reader ++ piece) ≤ most_octets_of reader)
    × (0 < count_taken (held_octets reader) piece)
    × LacksSpare g reader.buffer (count_taken (held_octets reader) piece)
PieceNotTaken piece reader (Oversized len) =
    (most_octets_of reader < len) × (len ≡ length_field (held_octets reader ++ piece))
