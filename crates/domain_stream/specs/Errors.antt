-- What errors say, and when they come.
use Rattle.std.specs.Prelude.{◌≡◌, ℕ, ◌+◌, ◌-◌, ◌<◌, ◌≤◌, List, length, codes}
use Rattle.octseq.specs.declared.octets.Octets.{Ghosts}
use Rattle.octseq.specs.Appending.{LacksSpare}
use Rattle.domain_stream.specs.Framing.{first_end}
use Rattle.domain_stream.specs.declared.error.StreamError.{StreamError}
use Rattle.domain_stream.specs.declared.error.StreamError.TheVariants.{Append, Oversized}

-- the text of the error
abbrev pub stream_error_text : {E : Type 0} → StreamError E → List ℕ
stream_error_text (Append _) = codes "buffer size exceeded"
stream_error_text (Oversized _) = codes "message size exceeded"

-- Why a message m wasn't appended: it has more octets than a length field can state; else there is no room for it and
-- its length field. `g` is `Stream.Octets`.
abbrev pub MessageNotAppended : {S E : Type 0} → Ghosts S → List ℕ → S → StreamError E → Type 0
MessageNotAppended g m stream (Append _) = (length m ≤ 65535) × LacksSpare g stream (2 + length m)
MessageNotAppended g m stream (Oversized len) = (65535 < length m) × (len ≡ length m)

-- How many octets are missing up to the end of the first message; of its length field while that is incomplete.
abbrev pub missing_in : List ℕ → ℕ
missing_in o = first_end o - length o
