-- What the fields of a name builder mean.
use Rattle.std.specs.Prelude.{◌≡◌, ℕ, ◌+◌, ◌-◌, ◌≤◌, List, [], ◌∷◌, length, take, drop, slice_set, Option, None, Some}
use Rattle.domain_label.specs.Wire.{wire, labels_in, IsRelative}
use Rattle.domain_text.specs.BuilderState.{BuilderState, encoded}

-- What a builder has built, and how many octets fit in all without new memory.
pub record Held : Type 0 where
  pub built : BuilderState
  pub capacity : ℕ

-- How many octets fit without new memory: as many as are fixed for the type, else as there is room for now.
abbrev pub room : Option ℕ → Held → ℕ
room None held = held.capacity
room (Some n) held = n

-- What octets and the offset of an open label's length octet say.
abbrev pub view_of : List ℕ → Option ℕ → BuilderState
view_of s None = record { labels = labels_in s; open_label = [] }
view_of s (Some h) = record { labels = labels_in (take h s); open_label = drop (h + 1) s }

-- The offset of the open label's length octet.
abbrev pub open_head : BuilderState → Option ℕ
open_head b = offset (length (wire b.labels)) b.open_label
  where
    offset : ℕ → List ℕ → Option ℕ
    offset h [] = None
    offset h (c ∷ cs) = Some h

-- Octets once the length of the open label, if there is one, is written; its octets end at n.
abbrev pub closed_at : List ℕ → Option ℕ → ℕ → List ℕ
closed_at s None n = s
closed_at s (Some h) n = slice_set s h (n - h - 1)

-- The octets are those of the labels.
pub record IsInside (s : List ℕ) (h : Option ℕ) : Type 0 where
  pub octets : s ≡ encoded (view_of s h)
  pub head : h ≡ open_head (view_of s h)
  pub labels : IsRelative (view_of s h).labels
  pub label_short : length (view_of s h).open_label ≤ 63
  pub name_short : length s ≤ 254
