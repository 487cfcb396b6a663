-- IPv6 addresses as text: RFC 5952, 4 says how they are shown, and RFC 4291, 2.2 how they are read.
use Rattle.std.specs.Prelude.{ℕ, suc, ◌+◌, ◌-◌, ◌*◌, ◌/◌, ◌%◌, Bool, true, false, List, [], ◌∷◌, ◌++◌, length, take, drop, replicate, Option, Some, None, ◌==◌, ◌&&◌, nat_lt, nat_le, if◌then◌else◌}
use Rattle.domain_rdata_text.specs.Addresses.{pieces_from, read_ipv4}
use Rattle.domain_rdata_text.specs.Hex.{hex_digit, is_hex, hex_value}

-- the groups of 16 bits that octets are
abbrev pub groups_of : List ℕ → List ℕ
groups_of [] = []
groups_of (a ∷ []) = []
groups_of (a ∷ b ∷ os) = (a * 256 + b) ∷ groups_of os

-- the octets of a group
abbrev pub group_octets : ℕ → List ℕ
group_octets g = (g / 256) ∷ (g % 256) ∷ []

-- ---- shown

-- a group in lower-case digits, without leading zeros (RFC 5952, 4.1 and 4.3)
abbrev pub group_text : ℕ → List ℕ
group_text g =
    if nat_lt g 16 then hex_digit g ∷ []
    else (if nat_lt g 256 then hex_digit (g / 16) ∷ hex_digit (g % 16) ∷ []
    else (if nat_lt g 4096 then hex_digit (g / 256) ∷ hex_digit (g / 16 % 16) ∷ hex_digit (g % 16) ∷ []
    else hex_digit (g / 4096) ∷ hex_digit (g / 256 % 16) ∷ hex_digit (g / 16 % 16) ∷ hex_digit (g % 16) ∷ []))

-- groups, a colon before each
abbrev pub coloned : List ℕ → List ℕ
coloned [] = []
coloned (g ∷ gs) = 58 ∷ (group_text g ++ coloned gs)

-- groups, a colon between two
abbrev pub groups_text : List ℕ → List ℕ
groups_text [] = []
groups_text (g ∷ gs) = group_text g ++ coloned gs

-- how many zeros groups begin with
abbrev pub zeros : List ℕ → ℕ
zeros [] = 0
zeros (g ∷ gs) = if g == 0 then suc (zeros gs) else 0

-- how many zeros the longest run has
abbrev pub longest_run : List ℕ → ℕ
longest_run [] = 0
longest_run (g ∷ gs) = if nat_lt (zeros (g ∷ gs)) (longest_run gs) then longest_run gs else zeros (g ∷ gs)

-- how many groups are before the first run of n zeros
abbrev pub before_run : ℕ → List ℕ → ℕ
before_run n [] = 0
before_run n (g ∷ gs) = if nat_le n (zeros (g ∷ gs)) then 0 else suc (before_run n gs)

-- groups, with `::` in place of n of them, which are after k others
abbrev pub shortened : ℕ → ℕ → List ℕ → List ℕ
shortened k n gs = groups_text (take k gs) ++ 58 ∷ 58 ∷ groups_text (drop (k + n) gs)

-- an address by its groups: the longest run of zeros, and the first of equally long ones, as `::`, if it has two or
-- more (RFC 5952, 4.2)
abbrev pub address_text : List ℕ → List ℕ
address_text gs =
    if nat_le 2 (longest_run gs) then shortened (before_run (longest_run gs) gs) (longest_run gs) gs else groups_text gs

-- an address by its octets
abbrev pub ipv6_text : List ℕ → List ℕ
ipv6_text os = address_text (groups_of os)

-- ---- read

-- the number of four hexadecimal digits
abbrev pub of_four : ℕ → ℕ → ℕ → ℕ → Option ℕ
of_four a b c d =
    if is_hex a && is_hex b && is_hex c && is_hex d
    then Some (hex_value a * 4096 + hex_value b * 256 + hex_value c * 16 + hex_value d) else None

-- the group that a piece is: one to four digits, as there need not be the leading zeros (RFC 4291, 2.2, form 1)
abbrev pub read_group : List ℕ → Option ℕ
read_group [] = None
read_group (d ∷ []) = of_four 48 48 48 d
read_group (c ∷ d ∷ []) = of_four 48 48 c d
read_group (b ∷ c ∷ d ∷ []) = of_four 48 b c d
read_group (a ∷ b ∷ c ∷ d ∷ []) = of_four a b c d
read_group (a ∷ b ∷ c ∷ d ∷ e ∷ p) = None

-- the octets of a group, or else those of an IPv4 address that the piece is, where one may be
abbrev pub group_or_ipv4 : Bool → List ℕ → Option ℕ → Option (List ℕ)
group_or_ipv4 ipv4 p (Some g) = Some (group_octets g)
group_or_ipv4 ipv4 p None = if ipv4 then read_ipv4 p else None

abbrev pub read_piece : Bool → List ℕ → Option (List ℕ)
read_piece ipv4 p = group_or_ipv4 ipv4 p (read_group p)

-- octets, and those of a piece
abbrev pub with_piece : List ℕ → Option (List ℕ) → Option (List ℕ)
with_piece os None = None
with_piece os (Some more) = Some (os ++ more)

-- whether there are no pieces
abbrev pub are_no_pieces : List (List ℕ) → Bool
are_no_pieces [] = true
are_no_pieces (p ∷ ps) = false

-- the octets after octets that pieces are: the last may be an IPv4 address, if it is of the address's end (form 3)
abbrev pub pieces_octets : Bool → Option (List ℕ) → List (List ℕ) → Option (List ℕ)
pieces_octets end None ps = None
pieces_octets end (Some os) [] = Some os
pieces_octets end (Some os) (p ∷ ps) = pieces_octets end (with_piece os (read_piece (end && are_no_pieces ps) p)) ps

-- the octets of pieces with a colon between two, or of none
abbrev pub read_pieces : Bool → List ℕ → Option (List ℕ)
read_pieces end [] = Some []
read_pieces end (c ∷ w) = pieces_octets end (Some []) (pieces_from 58 [] [] (c ∷ w))

-- forms 1 and 3: the pieces have 16 octets
abbrev pub only_sixteen : Option (List ℕ) → Option (List ℕ)
only_sixteen None = None
only_sixteen (Some os) = if length os == 16 then Some os else None

-- form 2: between the octets l and r are zeros, of one group or more
abbrev pub with_zeros : Option (List ℕ) → Option (List ℕ) → Option (List ℕ)
with_zeros None r = None
with_zeros (Some l) None = None
with_zeros (Some l) (Some r) =
    if nat_le (length l + length r) 14 then Some (l ++ (replicate (16 - (length l + length r)) 0 ++ r)) else None

-- whether `::` is at the beginning
abbrev pub begins_gap : List ℕ → Bool
begins_gap [] = false
begins_gap (c ∷ []) = false
begins_gap (c ∷ d ∷ w) = c == 58 && d == 58

-- the offset of the first `::` after n octets
abbrev pub gap_from : ℕ → List ℕ → Option ℕ
gap_from n [] = None
gap_from n (c ∷ w) = if begins_gap (c ∷ w) then Some n else gap_from (n + 1) w

-- the address that a word is, where `::` is at this offset or nowhere
abbrev pub read_around : List ℕ → Option ℕ → Option (List ℕ)
read_around word None = only_sixteen (read_pieces true word)
read_around word (Some n) = with_zeros (read_pieces false (take n word)) (read_pieces true (drop (n + 2) word))

-- the address that a word is
abbrev pub read_ipv6 : List ℕ → Option (List ℕ)
read_ipv6 word = read_around word (gap_from 0 word)
