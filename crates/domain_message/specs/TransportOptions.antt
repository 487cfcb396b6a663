-- What options say about the transport: how long a connection stays open, and octets that only make a message longer.
use Rattle.std.specs.Prelude.{◌≡◌, ℕ, ◌<◌, List, [], length, codes, Option, Some, None}
use Rattle.domain_header.specs.Numbers.{number16}
use Rattle.domain_wire.specs.Refusals.{Refusal}
use Rattle.domain_wire.specs.Refusals.Refusal.{short_input, form}
use Rattle.domain_message.specs.declared.transport_options.Padding.{Padding}
use Rattle.domain_message.specs.declared.transport_options.TcpKeepalive.{TcpKeepalive}

-- The octets are a timeout in 16 bits, or none are there (RFC 7828, 3.1).
abbrev pub IsTimeout : List ℕ → Option ℕ → Type 0
IsTimeout octets None = octets ≡ []
IsTimeout octets (Some timeout) = (length octets ≡ 2) × (timeout ≡ number16 octets 0)

-- The octets say this.
abbrev pub SayTimeout : List ℕ → TcpKeepalive → Type 0
SayTimeout octets it = IsTimeout octets it.timeout

-- They are one octet, or more than two.
pub data IsTimeoutFault (octets : List ℕ) (why : Refusal) : Type 0 where
  short : length octets ≡ 1 → why ≡ short_input → IsTimeoutFault octets why
  long : 2 < length octets → why ≡ form (codes "timeout longer than two octets")
      → IsTimeoutFault octets why

-- The padding is all of the octets, which may be any (RFC 7830, 3).
abbrev pub SayPadding : List ℕ → Padding → Type 0
SayPadding octets it = it.octets.now ≡ octets
