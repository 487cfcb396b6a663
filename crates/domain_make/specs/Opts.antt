-- The lines of an OPT record, as `dig` and `dnswalk message` write them (RFC 6891, 6.1).
use Rattle.std.specs.Prelude.{◌≡◌, ◌≢◌, ◌⊎◌, ℕ, ◌+◌, ◌*◌, ◌/◌, ◌%◌, ◌<◌, ◌≤◌, Bool, true, false, List, [], ◌∷◌, ◌++◌, length, codes, slice_index, Option, Some, None, MatchOption}
use Rattle.std.specs.List.{flat_map}
use Rattle.domain_header.specs.Bits.{bit_of}
use Rattle.domain_label.specs.Hex.{hex_digit}
use Rattle.domain_label.specs.Wire.{Root}
use Rattle.domain_lines.specs.Edns.{four_digits}
use Rattle.domain_message.specs.Options.{EndsInOption}
use Rattle.domain_message_builder.specs.Contents.{RecordHead}
use Rattle.domain_message_builder.specs.Opt.{option_octets}
use Rattle.domain_rdata.specs.AnyData.{spaced_octet}
use Rattle.domain_make.specs.Parts.{IsNumberBelow}
use Rattle.domain_make.specs.Remarks.{BeginsOtherwise, HasNoOctet, IsTrimmed, words_before}
use Rattle.domain_make.specs.declared.opt.EdnsTold.{EdnsTold}
use Rattle.domain_make.specs.declared.opt.OptionLine.{OptionLine}
use Rattle.domain_make.specs.declared.opt.OptionLine.TheVariants.{Cut, Other, Whole}

-- A digit in hexadecimal is this number.
pub record IsHexDigit (digit n : ℕ) : Type 0 where
  pub small : n < 16
  pub digit_is : digit ≡ hex_digit n

-- Two digits in hexadecimal are this octet.
pub record IsHexOctet (high low octet : ℕ) : Type 0 where
  pub small : octet < 256
  pub high_is : high ≡ hex_digit (octet / 16)
  pub low_is : low ≡ hex_digit (octet % 16)

-- each of them is an octet
abbrev pub AreOctets : List ℕ → Type 0
AreOctets octets = (k : ℕ) → k < length octets → slice_index octets k < 256

-- The text is a space and two digits for each octet.
pub record ArePairs (text octets : List ℕ) : Type 0 where
  pub small : AreOctets octets
  pub text_is : text ≡ flat_map spaced_octet octets

-- The text begins with a space and the two digits of an octet, and has this after them.
pub record BeginsWithPair (text : List ℕ) (octet : ℕ) (rest : List ℕ) : Type 0 where
  pub small : octet < 256
  pub text_is : text ≡ spaced_octet octet ++ rest

-- The text has the bits that must be zero (6.1.4), if one of them isn't, and then the rest.
pub data IsZeroText (text : List ℕ) (bits : ℕ) (rest : List ℕ) : Type 0 where
  none : BeginsOtherwise (codes "MBZ: 0x") text → bits ≡ 0 → rest ≡ text → IsZeroText text bits rest
  some : bits < 16384 → text ≡ codes "MBZ: 0x" ++ (four_digits bits ++ (codes ", " ++ rest)) → IsZeroText text bits rest

-- The text is a response code of more than four bits (6.1.3; `BADVERS` section 9, `BADCOOKIE` RFC 7873, 8).
pub data IsStatusText (text : List ℕ) (code : ℕ) : Type 0 where
  bad_version : text ≡ codes "BADVERS" → code ≡ 16 → IsStatusText text code
  bad_cookie : text ≡ codes "BADCOOKIE" → code ≡ 23 → IsStatusText text code
  numbered : (digits : List ℕ) → text ≡ codes "RCODE" ++ digits → IsNumberBelow 4096 digits code → 16 ≤ code → IsStatusText text code

-- The text is a size, and a response code where it has one.
pub data IsSizeText (text : List ℕ) (size : ℕ) (code : Option ℕ) : Type 0 where
  alone : IsNumberBelow 65536 text size → code ≡ None → IsSizeText text size code
  coded : (digits status : List ℕ) (n : ℕ) → text ≡ digits ++ (codes ", status: " ++ status) → IsNumberBelow 65536 digits size → IsStatusText status n → code ≡ Some n → IsSizeText text size code

-- The line is the first one of an OPT record: version, the flags DO and CO, bits that must be zero, size, and response
-- code (6.1.2 and 6.1.3; CO RFC 9824, 5.1).
pub record IsEdnsLine (text : List ℕ) (told : EdnsTold) : Type 0 where
  pub version_digits : List ℕ
  pub from_zero : List ℕ
  pub from_size : List ℕ
  pub text_is : text ≡ codes "; EDNS: version: " ++ (version_digits ++ (codes ", flags:" ++ words_before ((told.dnssec_ok, codes " do") ∷ (told.compact_ok, codes " co") ∷ []) (codes "; " ++ from_zero)))
  pub version_is : IsNumberBelow 256 version_digits told.version
  pub zero_is : IsZeroText from_zero told.zero (codes "udp: " ++ from_size)
  pub size_is : IsSizeText from_size told.size told.code

-- the upper eight bits of the response code of twelve, where the text has one (6.1.3)
abbrev pub upper_of : Option ℕ → ℕ
upper_of None = 0
upper_of (Some code) = code / 16 % 256

-- the TTL of the record: eight bits of the response code, eight of the version, DO, CO, and fourteen (6.1.3)
abbrev pub edns_ttl : EdnsTold → ℕ
edns_ttl told = upper_of told.code * 16777216 + told.version * 65536 + bit_of told.dnssec_ok * 32768 + bit_of told.compact_ok * 16384 + told.zero % 16384

-- The line tells a response code whose lower four bits aren't these of the header.
abbrev pub IsOtherStatus : EdnsTold → ℕ → Type 0
IsOtherStatus told rcode = MatchOption told.code ⊥ (λ code. code % 16 ≢ rcode)

-- an OPT record of this size and this TTL before the length of its data: the root, the type 41, the size in the place
-- of the class (6.1.2)
abbrev pub opt_head : ℕ → ℕ → RecordHead
opt_head size ttl = record { owner = Root; rtype = 41; class = size; ttl = ttl }

-- that of the record that a first line tells
abbrev pub edns_head : EdnsTold → RecordHead
edns_head told = opt_head told.size (edns_ttl told)

-- The line shows an option, which is these octets: its code, its length, and its data (6.1.2).
pub record IsOptionLine (text octets : List ℕ) : Type 0 where
  pub code : ℕ
  pub digits : List ℕ
  pub pairs : List ℕ
  pub data_octets : List ℕ
  pub text_is : text ≡ codes "; OPT=" ++ (digits ++ (codes ":" ++ pairs))
  pub code_is : IsNumberBelow 65536 digits code
  pub pairs_are : ArePairs pairs data_octets
  pub short : length data_octets ≤ 65535
  pub octets_are : octets ≡ option_octets code data_octets

-- These are as many octets as the number says, at least one, and they end before an option does.
pub record IsCut (octets : List ℕ) (count : ℕ) : Type 0 where
  pub count_is : count ≡ length octets
  pub some : 0 < length octets
  pub ends : EndsInOption octets

-- The line shows octets that end before an option does, in the form of RFC 3597, 5.
pub record IsCutLine (text octets : List ℕ) : Type 0 where
  pub digits : List ℕ
  pub pairs : List ℕ
  pub text_is : text ≡ codes "; \\# " ++ (digits ++ (pairs ++ codes " ; unexpected end of input"))
  pub count : ℕ
  pub count_is : IsNumberBelow 65536 digits count
  pub pairs_are : ArePairs pairs octets
  pub cut : IsCut octets count

-- The text has this line first, and then the rest.
pub record IsFirstLine (text line rest : List ℕ) : Type 0 where
  pub no_feed : HasNoOctet 10 line
  pub text_is : (text ≡ line ++ 10 ∷ rest) ⊎ ((text ≡ line) × (rest ≡ []))

-- The text begins with a line of which this holds, without the white space at its end.
pub record BeginsWithLine (Is : List ℕ → Type 0) (text rest : List ℕ) : Type 0 where
  pub line : List ℕ
  pub trimmed : List ℕ
  pub more : 0 < length text
  pub first : IsFirstLine text line rest
  pub trimmed_is : IsTrimmed line trimmed
  pub holds : Is trimmed

-- The text begins with lines of options, as many as there are, which say these octets: whole options, and last maybe
-- octets that end before an option does.
pub data AreOptionsAhead : (text octets : List ℕ) → Type 0 where
  no_more : {text : List ℕ} → ((octets rest : List ℕ) → BeginsWithLine (λ line. IsOptionLine line octets ⊎ IsCutLine line octets) text rest → ⊥) → AreOptionsAhead text []
  cut : {text octets rest : List ℕ} → BeginsWithLine (λ line. IsCutLine line octets) text rest → AreOptionsAhead text octets
  option : {text first rest more : List ℕ} → BeginsWithLine (λ line. IsOptionLine line first) text rest → AreOptionsAhead rest more → AreOptionsAhead text (first ++ more)

-- What a line says was appended to octets of options: an option, or nothing where it shows none.
abbrev pub AddsOption : List ℕ → List ℕ → List ℕ → Bool → Type 0
AddsOption text old new true = (octets : List ℕ) × IsOptionLine text octets × (new ≡ old ++ octets)
AddsOption text old new false = ((octets : List ℕ) → IsOptionLine text octets → ⊥) × (new ≡ old)

-- The same of octets that end before an option does.
abbrev pub AddsCut : List ℕ → List ℕ → List ℕ → Bool → Type 0
AddsCut text old new true = (octets : List ℕ) × IsCutLine text octets × (new ≡ old ++ octets)
AddsCut text old new false = ((octets : List ℕ) → IsCutLine text octets → ⊥) × (new ≡ old)

-- The same of both: what the line is.
abbrev pub AddsLine : List ℕ → List ℕ → List ℕ → OptionLine → Type 0
AddsLine text old new Whole = AddsOption text old new true
AddsLine text old new Cut = AddsCut text old new true
AddsLine text old new Other = AddsOption text old new false × AddsCut text old new false

-- What a line is: an option, such octets, or neither.
abbrev pub IsLineOf : List ℕ → OptionLine → Type 0
IsLineOf text Whole = (octets : List ℕ) × IsOptionLine text octets
IsLineOf text Cut = (octets : List ℕ) × IsCutLine text octets
IsLineOf text Other = (octets : List ℕ) → IsOptionLine text octets ⊎ IsCutLine text octets → ⊥
