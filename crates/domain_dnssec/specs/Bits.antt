-- The bits of an octet.
use Rattle.std.specs.Prelude.{ℕ, ◌-◌, ◌/◌, ◌%◌, ◌^◌, Bool, nat_eq, List}
use Rattle.std.specs.List.{filter, range_with_len}

-- the bit is a one; bit 0 is the highest one
abbrev pub is_one : ℕ → ℕ → Bool
is_one octet bit = nat_eq (octet / 2 ^ (7 - bit) % 2) 1

-- which bits of an octet are ones
unfoldable pub ones : ℕ → List ℕ
ones octet = filter (is_one octet) (range_with_len 0 8)
