-- EDNS options that are written and read by name. `o` is the list of the octets of a buffer, of which the first `len`
-- are options in wire format (RFC 6891, 6.1.2).
use Rattle.std.specs.Prelude.{◌≡◌, ◌⊎◌, ℕ, ◌+◌, ◌<◌, ◌≤◌, List, ◌++◌, length, drop, min}
use Rattle.std.specs.Int.{w16, to_be_bytes}
use Rattle.std.specs.Str.{IsUtf8}
use Rattle.domain_wire.specs.Refusals.{Refusal}
use Rattle.domain_message.specs.KnownOptions.{IsCookieFault, IsPrefix, octets_of_prefix, IsCutFault}
use Rattle.domain_message.specs.KnownOptions.{IsClientSubnet, IsSubnetFault, IsExtendedError}
use Rattle.domain_message.specs.KnownViews.{IsErrorFault}
use Rattle.domain_message_builder.specs.NamedOptions.{subnet}
use Rattle.domain_message_builder.specs.Opt.{option_octets}
use Rattle.domain_buffer.specs.Puts.{PutsAt}
use Rattle.dnsnames_c.specs.Status.{refusal_number}

-- Why an option with `data_len` octets of data isn't written. The options so far are said to have more octets than the
-- buffer (20). Or with it they would have more than the buffer, or more than the 65,535 of a record (8).
abbrev pub HasNoRoomFor : ℕ → ℕ → List ℕ → ℕ → Type 0
HasNoRoomFor data_len status o len =
    ((status ≡ 20) × (length o < len))
    ⊎ ((status ≡ 8) × (len ≤ length o) × (min (length o) 65535 < len + 4 + data_len))

-- An option of this code with this data was written after those that were there (0); or it wasn't, and nothing
-- changed.
abbrev pub AddsOption : ℕ → List ℕ → ℕ → List ℕ → ℕ → List ℕ → ℕ → Type 0
AddsOption code data_octets status o len o' len' =
    ((status ≡ 0) × (len' ≤ min (length o) 65535) × (len' ≡ len + 4 + length data_octets)
    × PutsAt len (option_octets code data_octets) o o')
    ⊎ (HasNoRoomFor (length data_octets) status o len × (o' ≡ o) × (len' ≡ len))

-- how many octets the cookie of a server has: none where there is none, else 8 to 32 (RFC 7873, 4)
abbrev pub IsServerLen : ℕ → Type 0
IsServerLen n = (n ≡ 0) ⊎ ((8 ≤ n) × (n ≤ 32))

-- An option with the cookies of a client and a server was written; or the server's has a wrong length (28).
abbrev pub AddsCookies : List ℕ → List ℕ → ℕ → List ℕ → ℕ → List ℕ → ℕ → Type 0
AddsCookies client server status o len o' len' =
    (IsServerLen (length server) × AddsOption 10 (client ++ server) status o len o' len')
    ⊎ ((status ≡ 28) × (IsServerLen (length server) → ⊥) × (o' ≡ o) × (len' ≡ len))

-- An option with the subnet of a client was written: so many bits of an address of this family (RFC 7871, 6); or the
-- family or the address hasn't these, with the number of why.
abbrev pub AddsSubnet : ℕ → ℕ → ℕ → List ℕ → ℕ → List ℕ → ℕ → List ℕ → ℕ → Type 0
AddsSubnet family source scope address status o len o' len' =
    (IsPrefix family source × (octets_of_prefix source ≤ length address)
    × AddsOption 8 (subnet family source scope address) status o len o' len')
    ⊎ ((why : Refusal) × IsCutFault family source address why × (status ≡ refusal_number why)
    × (o' ≡ o) × (len' ≡ len))

-- An option with an extended error was written: its code, and its text (RFC 8914, 2); or the text isn't UTF-8 (12).
abbrev pub AddsError : ℕ → List ℕ → ℕ → List ℕ → ℕ → List ℕ → ℕ → Type 0
AddsError info_code text status o len o' len' =
    (IsUtf8 text × AddsOption 15 (to_be_bytes w16 info_code ++ text) status o len o' len')
    ⊎ ((status ≡ 12) × (IsUtf8 text → ⊥) × (o' ≡ o) × (len' ≡ len))

-- The octets of an option are the cookie of a client, 8 octets, and that of a server, whose length is given (0). Or
-- they are no cookies, the status says why, and nothing changed.
abbrev pub ReadsCookies : List ℕ → ℕ → ℕ → ℕ → Type 0
ReadsCookies octets status old new =
    ((status ≡ 0) × (length octets ≡ 8 + new) × IsServerLen new)
    ⊎ ((why : Refusal) × IsCookieFault (length octets) why × (status ≡ refusal_number why)
    × (new ≡ old))

-- The octets of an option are a client's subnet, and its address is what follows four octets (0); or they are none,
-- with the number of why.
abbrev pub ReadsSubnet : List ℕ → ℕ → ℕ → ℕ → ℕ → Type 0
ReadsSubnet octets status family source scope =
    ((status ≡ 0) × IsClientSubnet octets family source scope (drop 4 octets))
    ⊎ ((why : Refusal) × IsSubnetFault octets why × (status ≡ refusal_number why))

-- The octets of an option are an extended error, and its text is what follows two octets (0); or they are none, with
-- the number of why, and nothing changed.
abbrev pub ReadsError : List ℕ → ℕ → ℕ → ℕ → Type 0
ReadsError octets status old new =
    ((status ≡ 0) × IsExtendedError octets new (drop 2 octets))
    ⊎ ((why : Refusal) × IsErrorFault octets why × (status ≡ refusal_number why) × (new ≡ old))
