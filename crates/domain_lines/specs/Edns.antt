-- OPT records, as `dig` shows them (RFC 6891, 6.1).
use Rattle.std.specs.Prelude.{ℕ, ◌+◌, ◌*◌, ◌/◌, ◌%◌, ◌<◌, cond, nat_eq, Bool, List, [], ◌∷◌, ◌++◌, length, codes}
use Rattle.std.specs.Fmt.{decimal}
use Rattle.std.specs.List.{flat_map}
use Rattle.domain_label.specs.Hex.{hex_digit}
use Rattle.domain_wire.specs.Refusals.{refusal, refusal_text}
use Rattle.domain_wire.specs.declared.error.ParseError.{ParseError}
use Rattle.domain_wire.specs.declared.error.ParseError.TheVariants.{ShortInput}
use Rattle.domain_message.specs.Options.{BeginsWithOption, EndsInOption}
use Rattle.domain_message.specs.OptRecords.{compact_ok_bit, upper_code, edns_version, dnssec_ok_bit}
use Rattle.domain_rdata.specs.AnyData.{spaced_octet, unknown_text}
use Rattle.domain_lines.specs.Flags.{flag_text}

-- why, after what is shown
abbrev pub remark : ParseError → List ℕ
remark why = codes " ; " ++ refusal_text (refusal why)

-- the fourteen bits after the bit CO, which must be zero (6.1.4)
abbrev pub bits_of_zero : ℕ → ℕ
bits_of_zero ttl = ttl % 16384

-- sixteen bits in four hexadecimal digits
abbrev pub four_digits : ℕ → List ℕ
four_digits n = hex_digit (n / 4096 % 16) ∷ hex_digit (n / 256 % 16) ∷ hex_digit (n / 16 % 16) ∷ hex_digit (n % 16) ∷ []

-- what is between the flags and the size: the bits that must be zero, if they aren't
abbrev pub zero_text : ℕ → List ℕ
zero_text n = cond (nat_eq n 0) (codes "; ") (codes "; MBZ: 0x" ++ (four_digits n ++ codes ", "))

-- a response code of more than four bits (6.1.3; `BADVERS` section 9, `BADCOOKIE` RFC 7873, 8)
abbrev pub long_code_text : ℕ → List ℕ
long_code_text n = cond (nat_eq n 16) (codes "BADVERS") (cond (nat_eq n 23) (codes "BADCOOKIE") (codes "RCODE" ++ decimal n))

-- the response code of twelve bits, if it has more than the header's four
abbrev pub status_text : ℕ → ℕ → List ℕ
status_text upper lower = cond (nat_eq upper 0) [] (codes ", status: " ++ long_code_text (upper * 16 + lower))

-- the line of an OPT record: version, flags and size, and the response code where it is a longer one
abbrev pub edns_line : ℕ → ℕ → ℕ → List ℕ
edns_line ttl size rcode = codes "; EDNS: version: " ++ (decimal (edns_version ttl) ++ (codes ", flags:" ++ (flag_text (dnssec_ok_bit ttl) (codes " do")
    ++ (flag_text (compact_ok_bit ttl) (codes " co") ++ (zero_text (bits_of_zero ttl) ++ (codes "udp: " ++ (decimal size ++ status_text (upper_code ttl) rcode)))))))

-- the line before an OPT record that isn't the first one
abbrev pub another_line : List ℕ
another_line = codes "; another OPT record: FORMERR, RFC 6891 6.1.1"

-- the same with its newline, where there is another
abbrev pub another_text : Bool → List ℕ
another_text another = cond another (another_line ++ 10 ∷ []) []

-- the line of an option: its code, and each octet of its data
abbrev pub option_line : ℕ → List ℕ → List ℕ
option_line code data_octets = codes "; OPT=" ++ (decimal code ++ (codes ":" ++ flat_map spaced_octet data_octets))

-- the line of octets that end before an option does: in the form of RFC 3597, 5
abbrev pub cut_option_line : List ℕ → List ℕ
cut_option_line octets = codes "; " ++ (unknown_text octets ++ remark ShortInput)

-- The text has a line for each option, and one for octets at the end that are no whole option.
pub data AreOptionLines : (octets text : List ℕ) → Type 0 where
  no_more : AreOptionLines [] []
  option : {octets text rest data_octets : List ℕ} {code : ℕ} → BeginsWithOption octets code data_octets rest → AreOptionLines rest text → AreOptionLines octets (option_line code data_octets ++ (10 ∷ text))
  cut : {octets : List ℕ} → 0 < length octets → EndsInOption octets → AreOptionLines octets (cut_option_line octets ++ (10 ∷ []))
