-- What lies in a buffer of 255 octets.
use Rattle.std.specs.Prelude.{◌≡◌, ℕ, ◌+◌, ◌<◌, ◌≤◌, List, length, take, drop}
use Rattle.domain_label.specs.Wire.{wire, labels_in, IsRelative}
use Rattle.domain_text.specs.BuilderState.{BuilderState}
use Rattle.domain_text.specs.declared.buffer.Ends.{Ends}

-- The wire format of the finished labels lies before `head`, and the octets of the open label after the
-- offset of its length octet.
abbrev pub buffer_view : List ℕ → ℕ → ℕ → BuilderState
buffer_view octets head open_len = record { labels = labels_in (take head octets); open_label = take open_len (drop (head + 1) octets) }

-- The buffer has 255 octets; the finished labels are a relative name, and the open label fits after them.
pub record IsBuffer (octets : List ℕ) (head : ℕ) (open_len : ℕ) : Type 0 where
  pub whole : length octets ≡ 255
  pub wire : wire (labels_in (take head octets)) ≡ take head octets
  pub labels : IsRelative (labels_in (take head octets))
  pub label_short : open_len ≤ 63
  pub fits : head + open_len ≤ 254
  pub open_fits : 0 < open_len → head + open_len ≤ 253

-- What lies in a buffer whose labels end there.
abbrev pub buffer_state : List ℕ → Ends → BuilderState
buffer_state octets ends = buffer_view octets ends.head ends.open_len

-- They end there.
abbrev pub IsHeld : List ℕ → Ends → Type 0
IsHeld octets ends = IsBuffer octets ends.head ends.open_len
