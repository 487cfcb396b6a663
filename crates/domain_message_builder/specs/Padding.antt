-- Padding of a message to a multiple of a block (RFC 7830, 3; RFC 8467, 4.1).
use Rattle.std.specs.Prelude.{ℕ, ◌+◌, ◌-◌, ◌%◌, List, ◌++◌, length, replicate}
use Rattle.domain_message_builder.specs.Opt.{Opt, option_octets, with_option}

-- how many octets are missing after n to the next multiple of `block`
abbrev pub to_block : ℕ → ℕ → ℕ
to_block block n = (block - n % block) % block

-- options, and after them one of padding, of n octets of zero (RFC 7830, 3)
abbrev pub padded : List ℕ → ℕ → List ℕ
padded options n = options ++ option_octets 12 (replicate n 0)

-- the OPT record with this padding after its options
abbrev pub padded_opt : ℕ → Opt → Opt
padded_opt n o = with_option 12 (replicate n 0) o

-- how many octets a message of `len` octets has with the OPT record and with an option of padding that has no octets,
-- and with those that follow: eleven are before the options, and four in the option
abbrev pub least_len : ℕ → Opt → ℕ → ℕ
least_len len o following = len + (11 + length o.options) + 4 + following

-- how many octets of padding make them a multiple of `block`
abbrev pub padding_of : ℕ → ℕ → Opt → ℕ → ℕ
padding_of block len o following = to_block block (least_len len o following)

-- how many octets that is
abbrev pub padded_len : ℕ → ℕ → Opt → ℕ → ℕ
padded_len block len o following = least_len len o following + padding_of block len o following

-- A target that became `old` by octets that were appended becomes `new` by these and n zeros.
abbrev pub ZerosFollow : {T : Type 0} → (T → List ℕ → T → Type 0) → ℕ → T → T → Type 0
ZerosFollow {T = T} extends n old new =
    (from : T) (s : List ℕ) → extends from s old → extends from (s ++ replicate n 0) new

-- It becomes `new` by these and others.
abbrev pub SomeFollow : {T : Type 0} → (T → List ℕ → T → Type 0) → T → T → Type 0
SomeFollow {T = T} extends old new =
    (from : T) (s : List ℕ) → extends from s old
    → (more : List ℕ) × extends from (s ++ more) new

-- A target became another by octets that were appended.
abbrev pub IsExtended : {T : Type 0} → (T → List ℕ → T → Type 0) → T → T → Type 0
IsExtended extends old new = (octets : List ℕ) × extends old octets new
