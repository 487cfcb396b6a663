-- A text in a buffer of fixed size, as far as it fits.
use Rattle.std.specs.Prelude.{◌≡◌, ℕ, ◌+◌, List, ◌++◌, length, take, drop}
use Rattle.domain_lines.specs.declared.room.Room.{Room}

-- the buffer with the text at its beginning, as far as it fits, and with what was behind it
abbrev pub laid : List ℕ → List ℕ → List ℕ
laid old text = take (length old) (text ++ drop (length text) old)

-- the buffer with the octets in it from an offset on
abbrev pub placed : List ℕ → ℕ → List ℕ → List ℕ
placed octets offset buffer = take offset buffer ++ octets ++ drop (offset + length octets) buffer

-- If the buffer has a text that ends at the offset, then it has the text with the octets behind it.
abbrev pub LaysBehind : ℕ → List ℕ → List ℕ → List ℕ → Type 0
LaysBehind offset octets old new =
    (first before : List ℕ) → offset ≡ length before → old ≡ laid first before → new ≡ laid first (before ++ octets)

-- The buffer, which was old, has the text, and this is how many octets the text has.
pub record HoldsText (old text buffer : List ℕ) (len : ℕ) : Type 0 where
  pub octets : buffer ≡ laid old text
  pub many : len ≡ length text

-- b is the room a after a text was put into it: of the same buffer, with the text behind what was put before.
pub record takes (a b : Room) (text : List ℕ) : Type 0 where
  pub same : b.buffer.ghost_name ≡ a.buffer.ghost_name
  pub behind : (old before : List ℕ) → HoldsText old before a.buffer.now a.len → HoldsText old (before ++ text) b.buffer.now b.len
