-- The text of a field of record data that is no name, by what the field is (RFC 1035, 5.1). The words of a field are
-- as the types of their RFCs have them in `domain_strings`, `domain_dnssec` and `domain_svcb`.
use Rattle.std.specs.Prelude.{ℕ, zero, suc, ◌+◌, ◌*◌, ◌==◌, nat_le, Bool, true, false, if◌then◌else◌, List, [], ◌∷◌, ◌++◌, length, take, drop, slice_index, Option, Some, None, option_map}
use Rattle.std.specs.Char.{is_ascii_alphanumeric}
use Rattle.std.specs.Fmt.{decimal}
use Rattle.std.specs.List.{list_all}
use Rattle.std.specs.Net.Text.{ipv4_text}
use Rattle.base64.specs.Engines.{standard}
use Rattle.base64.specs.GeneralPurpose.{encode_of}
use Rattle.domain_header.specs.Rtypes.{rtype_text}
use Rattle.domain_descriptor.specs.declared.kind.FieldKind.{FieldKind}
use Rattle.domain_descriptor.specs.declared.kind.FieldKind.TheVariants as kinds
use Rattle.domain_strings.specs.Base16.{base16_text}
use Rattle.domain_strings.specs.Quoted.{quoted, quoted_strings}
use Rattle.domain_dnssec.specs.Times.{time_text}
use Rattle.domain_dnssec.specs.TypeBitmaps.{block_fault, blocks_types}
use Rattle.domain_dnssec.specs.TypesText.{types_text}
use Rattle.domain_dnssec.specs.declared.type_bitmaps.TypeBitmapsError.{TypeBitmapsError}
use Rattle.domain_txt.specs.Strings.{strings_in}
use Rattle.domain_svcb.specs.Lists.{ipv6_octets_text}
use Rattle.domain_svcb.specs.ParamText.{params_text}
use Rattle.domain_svcb.specs.SvcParams.{param_fault}
use Rattle.domain_svcb.specs.declared.params.SvcParamsError.{SvcParamsError}
use Rattle.domain_field_text.specs.Base32.{base32hex_text}

-- what is before a word: nothing before the first of data, else a space
abbrev pub lead : Bool → List ℕ
lead true = []
lead false = 32 ∷ []

-- a word of data, where there is one
abbrev pub led : Bool → Option (List ℕ) → Option (List ℕ)
led first None = None
led first (Some w) = Some (lead first ++ w)

-- the number that one, two or four octets are, the high one first (RFC 1035, 2.3.2)
abbrev pub number_of : List ℕ → Option ℕ
number_of [] = None
number_of (a ∷ []) = Some a
number_of (a ∷ b ∷ []) = Some (a * 256 + b)
number_of (a ∷ b ∷ c ∷ []) = None
number_of (a ∷ b ∷ c ∷ d ∷ []) = Some (a * 16777216 + b * 65536 + c * 256 + d)
number_of (a ∷ b ∷ c ∷ d ∷ e ∷ os) = None

-- the type of records that two octets are
abbrev pub rtype_of : List ℕ → Option ℕ
rtype_of [] = None
rtype_of (a ∷ []) = None
rtype_of (a ∷ b ∷ []) = Some (a * 256 + b)
rtype_of (a ∷ b ∷ c ∷ os) = None

-- octets, if they are so many
abbrev pub of_size : ℕ → List ℕ → Option (List ℕ)
of_size n os = if length os == n then Some os else None

-- octets, if record data can have so many (RFC 1035, 3.2.1)
abbrev pub few : List ℕ → Option (List ℕ)
few os = if nat_le (length os) 65535 then Some os else None

-- the octets behind one that says how many they are (RFC 1035, 3.3)
abbrev pub behind_count : List ℕ → Option (List ℕ)
behind_count [] = None
behind_count (n ∷ s) = of_size n s

-- the octets of a tag: letters and digits, one or more (RFC 8659, 4.1)
abbrev pub tag_of : Option (List ℕ) → Option (List ℕ)
tag_of None = None
tag_of (Some []) = None
tag_of (Some (c ∷ s)) = if list_all is_ascii_alphanumeric (c ∷ s) then Some (c ∷ s) else None

-- a character string between quotes, where there is one; or none (RFC 1183, 3.2)
abbrev pub optional_text : Bool → List ℕ → Option (List ℕ)
optional_text first [] = Some []
optional_text first (c ∷ os) = led first (option_map quoted (behind_count (c ∷ os)))

-- the text of a list, if there is one and it has an item
abbrev pub some_text : {A : Type 0} → (List A → List ℕ) → Option (List A) → Option (List ℕ)
some_text text None = None
some_text text (Some []) = None
some_text text (Some (x ∷ xs)) = Some (text (x ∷ xs))

-- the same as words of data, or nothing if it has none
abbrev pub any_text : {A : Type 0} → (List A → List ℕ) → Bool → Option (List A) → Option (List ℕ)
any_text text first None = None
any_text text first (Some []) = Some []
any_text text first (Some (x ∷ xs)) = Some (lead first ++ text (x ∷ xs))

-- character strings, each between quotes
abbrev pub strings_text : List ℕ → List ℕ
strings_text os = quoted_strings (strings_in os)

-- octets in hexadecimal digits, or a hyphen where there is none (RFC 5155, 3.3)
abbrev pub salt_text : List ℕ → List ℕ
salt_text [] = 45 ∷ []
salt_text (c ∷ os) = base16_text (c ∷ os)

-- ---- bitmaps of types

-- a block before others
abbrev pub with_block : ℕ × List ℕ → Option (List (ℕ × List ℕ)) → Option (List (ℕ × List ℕ))
with_block b None = None
with_block b (Some bs) = Some (b ∷ bs)

-- the blocks of octets, where `more` has those after the first, and this is wrong with that one
abbrev pub next_block : (ℕ → List ℕ → Option (List (ℕ × List ℕ))) → List ℕ → Option TypeBitmapsError → Option (List (ℕ × List ℕ))
next_block more o (Some why) = None
next_block more o None =
    with_block (slice_index o 0, take (slice_index o 1) (drop 2 o)) (more (slice_index o 0 + 1) (drop (slice_index o 1) (drop 2 o)))

-- The blocks, fewer than n, that octets are, of each its window and its bitmap: windows ascend from `least` on (RFC
-- 4034, 4.1.2).
abbrev pub blocks_from : ℕ → ℕ → List ℕ → Option (List (ℕ × List ℕ))
blocks_from zero least o = None
blocks_from (suc n) least [] = Some []
blocks_from (suc n) least (c ∷ o) = next_block (blocks_from n) (c ∷ o) (block_fault least (c ∷ o))

-- the blocks that octets are, of which record data can have so many
abbrev pub blocks_of : List ℕ → Option (List (ℕ × List ℕ))
blocks_of o = if nat_le (length o) 65535 then blocks_from (suc (length o)) 0 o else None

-- the types of the bitmaps that octets are
abbrev pub types_of : List ℕ → Option (List ℕ)
types_of o = option_map blocks_types (blocks_of o)

-- ---- service parameters

-- a parameter before others
abbrev pub with_param : ℕ × List ℕ → Option (List (ℕ × List ℕ)) → Option (List (ℕ × List ℕ))
with_param p None = None
with_param p (Some ps) = Some (p ∷ ps)

-- the number of two octets at an offset
abbrev pub number_at : List ℕ → ℕ → ℕ
number_at o p = slice_index o p * 256 + slice_index o (p + 1)

-- the parameters of octets, where `more` has those after the first, and this is wrong with that one
abbrev pub next_param : (ℕ → List ℕ → Option (List (ℕ × List ℕ))) → List ℕ → Option SvcParamsError → Option (List (ℕ × List ℕ))
next_param more o (Some why) = None
next_param more o None =
    with_param (number_at o 0, take (number_at o 2) (drop 4 o)) (more (number_at o 0 + 1) (drop (number_at o 2) (drop 4 o)))

-- The parameters, fewer than n, that octets are, of each its key and its value: keys ascend from `least` on (RFC 9460,
-- 2.2).
abbrev pub params_from : ℕ → ℕ → List ℕ → Option (List (ℕ × List ℕ))
params_from zero least o = None
params_from (suc n) least [] = Some []
params_from (suc n) least (c ∷ o) = next_param (params_from n) (c ∷ o) (param_fault least (c ∷ o))

-- the parameters that octets are, of which record data can have so many
abbrev pub params_in : List ℕ → Option (List (ℕ × List ℕ))
params_in o = if nat_le (length o) 65535 then params_from (suc (length o)) 0 o else None

-- ---- a field

-- The text of a field with these octets. Its first word is the first of data, or has a space before it, as each
-- further word has. There is no text of octets that aren't such a field, of a name, which isn't its octets alone, and
-- of a kind without a form of its own: such data has the form of RFC 3597, 5.
abbrev pub field_octets_text : Bool → FieldKind → List ℕ → Option (List ℕ)
field_octets_text first kinds.Number8 os = led first (option_map decimal (number_of os))
field_octets_text first kinds.Number16 os = led first (option_map decimal (number_of os))
field_octets_text first kinds.Number32 os = led first (option_map decimal (number_of os))
field_octets_text first kinds.Number48 os = None
field_octets_text first kinds.Number64 os = None
field_octets_text first kinds.Ttl os = led first (option_map decimal (number_of os))
field_octets_text first kinds.Serial os = led first (option_map decimal (number_of os))
field_octets_text first kinds.Time os = led first (option_map time_text (number_of os))
field_octets_text first kinds.Rtype os = led first (option_map rtype_text (rtype_of os))
field_octets_text first kinds.Ipv4 os = led first (option_map ipv4_text (of_size 4 os))
field_octets_text first kinds.Ipv6 os = led first (option_map ipv6_octets_text (of_size 16 os))
field_octets_text first kinds.Name os = None
field_octets_text first kinds.CharString os = led first (option_map quoted (behind_count os))
field_octets_text first kinds.OptionalString os = optional_text first os
field_octets_text first kinds.CharStrings os = led first (some_text strings_text (Some os))
field_octets_text first kinds.Tag os = led first (tag_of (behind_count os))
field_octets_text first kinds.QuotedText os = led first (option_map quoted (few os))
field_octets_text first kinds.CountedBase16 os = led first (option_map salt_text (behind_count os))
field_octets_text first kinds.CountedBase32 os = led first (some_text base32hex_text (behind_count os))
field_octets_text first kinds.CountedBase64 os = None
field_octets_text first kinds.TypeBitmaps os = led first (some_text types_text (types_of os))
field_octets_text first kinds.OptionalTypeBitmaps os = any_text types_text first (types_of os)
field_octets_text first kinds.SvcParams os = any_text params_text first (params_in os)
field_octets_text first kinds.Base16 os = led first (some_text base16_text (few os))
field_octets_text first kinds.Base64 os = led first (some_text (encode_of standard) (few os))
field_octets_text first kinds.Octets os = None
