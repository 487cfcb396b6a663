-- Numbers in a message, the high octet first (RFC 1035, 2.3.2).
use Rattle.std.specs.Prelude.{ℕ, ◌+◌, List, slice_range}
use Rattle.std.specs.Int.{w16, w32, from_be_bytes}

-- the number in the two octets from offset p on
abbrev pub number16 : List ℕ → ℕ → ℕ
number16 m p = from_be_bytes w16 (slice_range m p (p + 2))

-- the number in the four octets from offset p on
abbrev pub number32 : List ℕ → ℕ → ℕ
number32 m p = from_be_bytes w32 (slice_range m p (p + 4))
