-- What contracts see of options whose codes are known, and of what is read of them.
use Rattle.std.specs.Prelude.{◌≡◌, ℕ, ◌<◌, ◌≤◌, ◌/◌, List, length, take, Option}
use Rattle.std.specs.Str.{IsUtf8}
use denote.Bor.{Bor}
use Rattle.domain_wire.specs.Refusals.{Refusal}
use Rattle.domain_wire.specs.Refusals.Refusal.{short_input}
use Rattle.domain_wire.specs.declared.error.ParseError.{ParseError}
use Rattle.domain_message.specs.KnownOptions.{OfCode, FaultOf, IsExtendedError, IsCookie, HaveLengths, IsLengthFault, IsClientSubnet}
use Rattle.domain_message.specs.KnownOptions.{IsPrefix, octets_of_prefix, cut_octet, IsCutFault}
use Rattle.domain_message.specs.declared.known_options.ClientSubnet.{ClientSubnet}
use Rattle.domain_message.specs.declared.known_options.Cookie.{Cookie}
use Rattle.domain_message.specs.declared.known_options.ExtendedError.{ExtendedError}
use Rattle.domain_message.specs.declared.known_options.Nsid.{Nsid}
use Rattle.domain_message.specs.declared.edns_options.EdnsOption.{EdnsOption}

-- An option of this code was read as what its data say; or it is of another code, and as nothing.
abbrev pub ReadAs : {A : Type 0} → ℕ → (List ℕ → A → Type 0) → EdnsOption → Option A → Type 0
ReadAs code Says option found = OfCode code option.code (Says option.«data».now) found

-- An option of this code has data that aren't of its form, for this reason.
abbrev pub NotReadAs : ℕ → (List ℕ → Refusal → Type 0) → EdnsOption → ParseError → Type 0
NotReadAs code IsFault option e = FaultOf code option.code (IsFault option.«data».now) e

-- The identifier is all of the octets.
abbrev pub SayNsid : List ℕ → Nsid → Type 0
SayNsid octets it = it.identifier.now ≡ octets

-- The octets say the extended error.
abbrev pub SayError : List ℕ → ExtendedError → Type 0
SayError octets it = IsExtendedError octets it.info_code it.text.now

-- They are too few for one.
abbrev pub IsErrorFault : List ℕ → Refusal → Type 0
IsErrorFault octets why = (length octets < 2) × (why ≡ short_input)

-- The octets say the cookies.
abbrev pub SayCookies : List ℕ → Cookie → Type 0
SayCookies octets it = IsCookie (λ server. server.now) octets it.client.now it.server

-- The octets say the subnet.
abbrev pub SaySubnet : List ℕ → ClientSubnet → Type 0
SaySubnet octets it =
    IsClientSubnet octets it.family it.source_prefix_len it.scope_prefix_len it.address.now

-- The text is UTF-8, and is this string.
abbrev pub IsText : ExtendedError → Bor (List ℕ) → Type 0
IsText it text = (text.now ≡ it.text.now) × IsUtf8 it.text.now

-- The text isn't UTF-8.
abbrev pub NotText : ExtendedError → Type 0
NotText it = IsUtf8 it.text.now → ⊥

-- The cookies have lengths that cookies have.
abbrev pub CanBeWritten : Cookie → Type 0
CanBeWritten it = HaveLengths (λ server. server.now) it.client.now it.server

-- One hasn't, for this reason.
abbrev pub CannotBeWritten : Cookie → Refusal → Type 0
CannotBeWritten it why = IsLengthFault (λ server. server.now) it.client.now it.server why

-- The address was cut to the bits that are encoded: its whole octets, and the last one, if there is one.
abbrev pub IsCut : ClientSubnet → List ℕ → Option ℕ → Type 0
IsCut it whole last =
    IsPrefix it.family it.source_prefix_len
    × (octets_of_prefix it.source_prefix_len ≤ length it.address.now)
    × (whole ≡ take (it.source_prefix_len / 8) it.address.now)
    × (last ≡ cut_octet it.address.now it.source_prefix_len)

-- It can't be, for this reason.
abbrev pub CannotCut : ClientSubnet → Refusal → Type 0
CannotCut it why = IsCutFault it.family it.source_prefix_len it.address.now why
