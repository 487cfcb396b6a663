-- The statements of the laws of options, for callers.
use Rattle.std.specs.Prelude.{◌≡◌, ℕ, ◌^◌, ◌<◌, ◌≤◌, List, ◌++◌, length, Some}
use Rattle.std.specs.Int.{w16, to_be_bytes}
use Rattle.domain_message.specs.FirstOptions.{HasNoOption, IsFirstOption}
use Rattle.domain_message.specs.KnownOptions.{IsPrefix, octets_of_prefix, cut_bits, IsAddress, IsClientSubnet, IsExtendedError}
use Rattle.domain_message.specs.KnownViews.{CanBeWritten, SayCookies}
use Rattle.domain_message.specs.declared.known_options.Cookie.{Cookie}
use Rattle.domain_message.specs.TransportOptions.{IsTimeout}
use Rattle.domain_message_builder.specs.NamedOptions.{cookie_octets, subnet, timeout}
use Rattle.domain_message_builder.specs.Opt.{option_octets}

-- An option that is pushed where none of its code was before is the first of that code.
abbrev pub PushedIsFirst : Type 0
PushedIsFirst =
    (code : ℕ) (options data_octets : List ℕ) → code < 2 ^ 16 → length data_octets < 2 ^ 16
    → HasNoOption code options
    → IsFirstOption code (options ++ option_octets code data_octets) data_octets

-- An option that is pushed leaves the first of another code what it was.
abbrev pub PushedLeavesFirst : Type 0
PushedLeavesFirst =
    (code other : ℕ) (options data_octets others : List ℕ) → IsFirstOption code options data_octets
    → IsFirstOption code (options ++ option_octets other others) data_octets

-- Cookies are read as they were written.
abbrev pub CookiesReadBack : Type 0
CookiesReadBack = (it : Cookie) → CanBeWritten it → SayCookies (cookie_octets it) it

-- A subnet is read with the address cut to the bits that are encoded.
abbrev pub SubnetReadsBack : Type 0
SubnetReadsBack =
    (family source scope : ℕ) (address : List ℕ) → family < 2 ^ 16 → IsPrefix family source
    → octets_of_prefix source ≤ length address
    → IsClientSubnet (subnet family source scope address) family source scope
    (cut_bits address source)

-- An address that has these bits alone is cut to itself.
abbrev pub AddressIsKept : Type 0
AddressIsKept =
    (source : ℕ) (address : List ℕ) → IsAddress source address → cut_bits address source ≡ address

-- An extended error is read as it was written.
abbrev pub ErrorReadsBack : Type 0
ErrorReadsBack =
    (info_code : ℕ) (text : List ℕ) → info_code < 2 ^ 16
    → IsExtendedError (to_be_bytes w16 info_code ++ text) info_code text

-- So is a timeout.
abbrev pub TimeoutReadsBack : Type 0
TimeoutReadsBack =
    (told : ℕ) → told < 2 ^ 16 → IsTimeout (timeout (Some told)) (Some told)
