-- What fields hold.
use Rattle.std.specs.Prelude.{◌≡◌, ◌⊎◌, ℕ, ◌+◌, ◌*◌, ◌-◌, ◌/◌, ◌%◌, ◌<◌, ◌==◌, Bool, false, if◌then◌else◌, List, [], ◌∷◌, ◌++◌, length, map, slice_range, Option, Some, None, option_map}
use Rattle.std.specs.Char.{is_ascii_alphanumeric}
use Rattle.std.specs.List.{flat_map, list_all}
use Rattle.domain_label.specs.Wire.{wire, Root}
use Rattle.domain_reading.specs.Grammar.{Names}
use Rattle.domain_descriptor.specs.Fields.{FieldAt}
use Rattle.domain_descriptor.specs.Rdatas.{rdata_kinds, rdata_message, rdata_begin}
use Rattle.domain_descriptor.specs.declared.kind.FieldKind.{FieldKind}
use Rattle.domain_descriptor.specs.declared.kind.FieldKind.TheVariants as kinds
use Rattle.domain_descriptor.specs.declared.rdata.Rdata.{Rdata}
use Rattle.domain_rdata_text.specs.declared.form.TextForm.{TextForm}
use Rattle.domain_rdata_text.specs.declared.form.TextForm.TheVariants as forms
use Rattle.domain_rdata_text.specs.declared.value.Open.{Open}
use Rattle.domain_rdata_text.specs.declared.value.Open.TheVariants.{Between, Inside}
use Rattle.domain_rdata_text.specs.declared.value.Value.{Value}
use Rattle.domain_rdata_text.specs.declared.value.Value.TheVariants as held
use Rattle.domain_rdata_text.specs.Bitmaps.{bitmaps_of, types_of_bitmaps}
use Rattle.domain_rdata_text.specs.Forms.{text_form}
use Rattle.domain_rdata_text.specs.Words.{lists}

-- What a field holds: a number, a span of time, a time, one type or several, the octets of an address, or a name by
-- its labels before the root. It may also be the octets of a string, of several, of a tag, or of what is between
-- quotes. Octets without such a meaning are all of the field.
pub data Val : Type 0 where
  number8 : ℕ → Val
  number16 : ℕ → Val
  number32 : ℕ → Val
  ttl : ℕ → Val
  time : ℕ → Val
  rtype : ℕ → Val
  ipv4 : List ℕ → Val
  ipv6 : List ℕ → Val
  name : List (List ℕ) → Val
  string : List ℕ → Val
  optional_string : Option (List ℕ) → Val
  strings : List (List ℕ) → Val
  tag : List ℕ → Val
  quoted : List ℕ → Val
  base16 : List ℕ → Val
  base64 : List ℕ → Val
  counted16 : List ℕ → Val
  counted32 : List ℕ → Val
  types : List ℕ → Val
  optional_types : List ℕ → Val
  generic : List ℕ → Val

-- what a value of the program is
abbrev pub val_of : Value → Val
val_of (held.Number8 n) = number8 n
val_of (held.Number16 n) = number16 n
val_of (held.Number32 n) = number32 n
val_of (held.Ttl n) = ttl n
val_of (held.Time n) = time n
val_of (held.Rtype n) = rtype n
val_of (held.Ipv4 os) = ipv4 os.items
val_of (held.Ipv6 os) = ipv6 os.items
val_of (held.Name ls) = name (lists ls.items)
val_of (held.CharString s) = string s.items
val_of (held.OptionalString o) = optional_string (option_map (λ s. s.items) o)
val_of (held.CharStrings ss) = strings (lists ss.items)
val_of (held.Tag s) = tag s.items
val_of (held.QuotedText s) = quoted s.items
val_of (held.Base16 os) = base16 os.items
val_of (held.Base64 os) = base64 os.items
val_of (held.CountedBase16 os) = counted16 os.items
val_of (held.CountedBase32 os) = counted32 os.items
val_of (held.Types ts) = types ts.items
val_of (held.OptionalTypes ts) = optional_types ts.items
val_of (held.Generic os) = generic os.items

-- what several fields of the program hold
abbrev pub vals_of : List Value → List Val
vals_of vs = map val_of vs

-- how it is written
abbrev pub form_of_val : Val → TextForm
form_of_val (number8 n) = forms.Number8
form_of_val (number16 n) = forms.Number16
form_of_val (number32 n) = forms.Number32
form_of_val (ttl n) = forms.Ttl
form_of_val (time n) = forms.Time
form_of_val (rtype n) = forms.Rtype
form_of_val (ipv4 os) = forms.Ipv4
form_of_val (ipv6 os) = forms.Ipv6
form_of_val (name ls) = forms.Name
form_of_val (string s) = forms.CharString
form_of_val (optional_string o) = forms.OptionalString
form_of_val (strings ss) = forms.CharStrings
form_of_val (tag s) = forms.Tag
form_of_val (quoted s) = forms.QuotedText
form_of_val (base16 os) = forms.Base16
form_of_val (base64 os) = forms.Base64
form_of_val (counted16 os) = forms.CountedBase16
form_of_val (counted32 os) = forms.CountedBase32
form_of_val (types ts) = forms.Types
form_of_val (optional_types ts) = forms.OptionalTypes
form_of_val (generic os) = forms.Generic

-- octets behind one that tells how many they are (RFC 1035, 3.3)
abbrev pub counted : List ℕ → List ℕ
counted s = length s ∷ s

-- the octets of a string, where there is one
abbrev pub optional_octets : Option (List ℕ) → List ℕ
optional_octets None = []
optional_octets (Some s) = counted s

-- the octets of the field, where its name isn't compressed
abbrev pub val_octets : Val → List ℕ
val_octets (number8 n) = n ∷ []
val_octets (number16 n) = (n / 256) ∷ (n % 256) ∷ []
val_octets (number32 n) = (n / 16777216) ∷ (n / 65536 % 256) ∷ (n / 256 % 256) ∷ (n % 256) ∷ []
val_octets (ttl n) = (n / 16777216) ∷ (n / 65536 % 256) ∷ (n / 256 % 256) ∷ (n % 256) ∷ []
val_octets (time n) = (n / 16777216) ∷ (n / 65536 % 256) ∷ (n / 256 % 256) ∷ (n % 256) ∷ []
val_octets (rtype n) = (n / 256) ∷ (n % 256) ∷ []
val_octets (ipv4 os) = os
val_octets (ipv6 os) = os
val_octets (name ls) = wire (ls ++ Root)
val_octets (string s) = counted s
val_octets (optional_string o) = optional_octets o
val_octets (strings ss) = flat_map counted ss
val_octets (tag s) = counted s
val_octets (quoted s) = s
val_octets (base16 os) = os
val_octets (base64 os) = os
val_octets (counted16 os) = counted os
val_octets (counted32 os) = counted os
val_octets (types ts) = bitmaps_of ts
val_octets (optional_types ts) = bitmaps_of ts
val_octets (generic os) = os

-- the octets of fields
abbrev pub vals_octets : List Val → List ℕ
vals_octets vs = flat_map val_octets vs

-- numbers of as many octets, the high one first (RFC 1035, 2.3.2); other octets are no such number
abbrev pub number8_in : List ℕ → Val
number8_in [] = generic []
number8_in (a ∷ []) = number8 a
number8_in (a ∷ b ∷ os) = generic (a ∷ b ∷ os)

abbrev pub number16_in : List ℕ → Val
number16_in [] = generic []
number16_in (a ∷ []) = generic (a ∷ [])
number16_in (a ∷ b ∷ []) = number16 (a * 256 + b)
number16_in (a ∷ b ∷ c ∷ os) = generic (a ∷ b ∷ c ∷ os)

abbrev pub rtype_in : List ℕ → Val
rtype_in [] = generic []
rtype_in (a ∷ []) = generic (a ∷ [])
rtype_in (a ∷ b ∷ []) = rtype (a * 256 + b)
rtype_in (a ∷ b ∷ c ∷ os) = generic (a ∷ b ∷ c ∷ os)

abbrev pub number32_in : List ℕ → Val
number32_in [] = generic []
number32_in (a ∷ []) = generic (a ∷ [])
number32_in (a ∷ b ∷ []) = generic (a ∷ b ∷ [])
number32_in (a ∷ b ∷ c ∷ []) = generic (a ∷ b ∷ c ∷ [])
number32_in (a ∷ b ∷ c ∷ d ∷ []) = number32 (a * 16777216 + b * 65536 + c * 256 + d)
number32_in (a ∷ b ∷ c ∷ d ∷ e ∷ os) = generic (a ∷ b ∷ c ∷ d ∷ e ∷ os)

abbrev pub ttl_in : List ℕ → Val
ttl_in [] = generic []
ttl_in (a ∷ []) = generic (a ∷ [])
ttl_in (a ∷ b ∷ []) = generic (a ∷ b ∷ [])
ttl_in (a ∷ b ∷ c ∷ []) = generic (a ∷ b ∷ c ∷ [])
ttl_in (a ∷ b ∷ c ∷ d ∷ []) = ttl (a * 16777216 + b * 65536 + c * 256 + d)
ttl_in (a ∷ b ∷ c ∷ d ∷ e ∷ os) = generic (a ∷ b ∷ c ∷ d ∷ e ∷ os)

abbrev pub time_in : List ℕ → Val
time_in [] = generic []
time_in (a ∷ []) = generic (a ∷ [])
time_in (a ∷ b ∷ []) = generic (a ∷ b ∷ [])
time_in (a ∷ b ∷ c ∷ []) = generic (a ∷ b ∷ c ∷ [])
time_in (a ∷ b ∷ c ∷ d ∷ []) = time (a * 16777216 + b * 65536 + c * 256 + d)
time_in (a ∷ b ∷ c ∷ d ∷ e ∷ os) = generic (a ∷ b ∷ c ∷ d ∷ e ∷ os)

abbrev pub ipv4_in : List ℕ → Val
ipv4_in os = if length os == 4 then ipv4 os else generic os

abbrev pub ipv6_in : List ℕ → Val
ipv6_in os = if length os == 16 then ipv6 os else generic os

-- a character string, where the first octet says how many follow
abbrev pub string_in : List ℕ → Val
string_in [] = generic []
string_in (n ∷ s) = if length s == n then string s else generic (n ∷ s)

-- a character string, or none
abbrev pub optional_string_in : List ℕ → Val
optional_string_in [] = optional_string None
optional_string_in (n ∷ s) = if length s == n then optional_string (Some s) else generic (n ∷ s)

-- octets, where the first one says how many follow
abbrev pub counted16_in : List ℕ → Val
counted16_in [] = generic []
counted16_in (n ∷ s) = if length s == n then counted16 s else generic (n ∷ s)

abbrev pub counted32_in : List ℕ → Val
counted32_in [] = generic []
counted32_in (n ∷ s) = if length s == n then counted32 s else generic (n ∷ s)

-- the types of bitmaps, or else octets that are no types' bitmaps
abbrev pub types_or : List ℕ → Option (List ℕ) → Val
types_or os None = generic os
types_or os (Some ts) = types ts

abbrev pub optional_types_or : List ℕ → Option (List ℕ) → Val
optional_types_or os None = generic os
optional_types_or os (Some ts) = optional_types ts

-- Character strings after strings. Between them an octet tells how many octets the next has; inside of one some were
-- read, and k are to come.
abbrev pub strings_in : List (List ℕ) → List ℕ → Open → List ℕ → Option (List (List ℕ))
strings_in ss s Between [] = Some ss
strings_in ss s Between (c ∷ os) = if c == 0 then strings_in (ss ++ [] ∷ []) [] Between os else strings_in ss [] (Inside c) os
strings_in ss s (Inside k) [] = None
strings_in ss s (Inside k) (c ∷ os) =
    if k == 1 then strings_in (ss ++ (s ++ c ∷ []) ∷ []) [] Between os else strings_in ss (s ++ c ∷ []) (Inside (k - 1)) os

-- Between strings nothing of one was read, and inside of one octets are to come.
abbrev pub IsOpen : List ℕ → Open → Type 0
IsOpen s Between = s ≡ []
IsOpen s (Inside k) = 0 < k

abbrev pub strings_or : List ℕ → Option (List (List ℕ)) → Val
strings_or os None = generic os
strings_or os (Some ss) = strings ss

-- letters and digits, one or more
abbrev pub is_tag : List ℕ → Bool
is_tag [] = false
is_tag (c ∷ s) = list_all is_ascii_alphanumeric (c ∷ s)

abbrev pub tag_in : List ℕ → Val
tag_in [] = generic []
tag_in (n ∷ s) = if length s == n then (if is_tag s then tag s else generic (n ∷ s)) else generic (n ∷ s)

-- what the octets of a field hold that is written so, and is no name
abbrev pub val_in : TextForm → List ℕ → Val
val_in forms.Number8 os = number8_in os
val_in forms.Number16 os = number16_in os
val_in forms.Number32 os = number32_in os
val_in forms.Ttl os = ttl_in os
val_in forms.Time os = time_in os
val_in forms.Rtype os = rtype_in os
val_in forms.Ipv4 os = ipv4_in os
val_in forms.Ipv6 os = ipv6_in os
val_in forms.Name os = generic os
val_in forms.CharString os = string_in os
val_in forms.OptionalString os = optional_string_in os
val_in forms.CharStrings os = strings_or os (strings_in [] [] Between os)
val_in forms.Tag os = tag_in os
val_in forms.QuotedText os = quoted os
val_in forms.Base16 os = base16 os
val_in forms.Base64 os = base64 os
val_in forms.CountedBase16 os = counted16_in os
val_in forms.CountedBase32 os = counted32_in os
val_in forms.Types os = types_or os (types_of_bitmaps os)
val_in forms.OptionalTypes os = optional_types_or os (types_of_bitmaps os)
val_in forms.Generic os = generic os

-- The field of this kind at p, which ends before e, holds this: a name, or what its octets say.
abbrev pub ValueAt : FieldKind → List ℕ → ℕ → ℕ → Val → Type 0
ValueAt kind m p e v =
    ((ls : List (List ℕ)) × (kind ≡ kinds.Name) × Names 255 m p (ls ++ Root) × (v ≡ name ls))
    ⊎ ((kind ≡ kinds.Name → ⊥) × (v ≡ val_in (text_form kind) (slice_range m p e)))

-- Fields of these kinds are at p, one after another, they hold these, and the last ends before e.
abbrev pub ValuesAt : List FieldKind → List ℕ → ℕ → List Val → ℕ → Type 0
ValuesAt [] m p [] e = e ≡ p
ValuesAt [] m p (v ∷ vs) e = ⊥
ValuesAt (kind ∷ kinds) m p [] e = ⊥
ValuesAt (kind ∷ kinds) m p (v ∷ vs) e = (q : ℕ) × FieldAt kind m p q × ValueAt kind m p q v × ValuesAt kinds m q vs e

-- The fields of record data hold these.
abbrev pub HasValues : Rdata → List Val → Type 0
HasValues it vs = (e : ℕ) × ValuesAt (rdata_kinds it) (rdata_message it) (rdata_begin it) vs e
