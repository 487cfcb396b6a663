-- Numbers on the wire: the octets of a number, the high one first, are those of `to_be_bytes`, and
-- the number that octets are is that of `from_be_bytes` (RFC 1035, 2.3.2).
use Rattle.std.specs.Prelude.{◌≡◌, ℕ, ◌*◌, ◌<◌, ◌^◌, ℤ, FitsSigned}
use Rattle.std.specs.Int.{Width, to_be_bytes, from_be_bytes, cast_unsigned, cast_signed, byte_len}

-- an unsigned number of any width is what its octets are
abbrev pub UnsignedReadBack : Type 0
UnsignedReadBack = (w : Width) (n : ℕ) → n < 2 ^ (8 * byte_len w) → from_be_bytes w (to_be_bytes w n) ≡ n

-- a signed number of any width is what its octets in two's complement are
abbrev pub SignedReadBack : Type 0
SignedReadBack = (w : Width) (z : ℤ) → FitsSigned w z → cast_signed w (from_be_bytes w (to_be_bytes w (cast_unsigned w z))) ≡ z
