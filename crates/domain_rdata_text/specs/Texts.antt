-- The text of record data, and what a text says (RFC 1035, 5.1; RFC 3597, 5).
use Rattle.std.specs.Prelude.{◌≡◌, ◌≢◌, ◌⊎◌, ℕ, Bool, true, false, if◌then◌else◌, nat_le, List, [], ◌∷◌, ◌++◌, length, map, Option, Some, None, Result, Ok, Err}
use Rattle.std.specs.List.{flat_map}
use Rattle.std.specs.Fmt.{decimal}
use Rattle.domain_descriptor.specs.Fields.{AreData, AreNoData}
use Rattle.domain_descriptor.specs.declared.fault.DataFault.{DataFault}
use Rattle.domain_descriptor.specs.declared.kind.FieldKind.{FieldKind}
use Rattle.domain_rdata_text.specs.declared.error.Fault.{Fault}
use Rattle.domain_rdata_text.specs.declared.error.Reason.{Reason}
use Rattle.domain_rdata_text.specs.declared.error.Reason.TheVariants as reasons
use Rattle.domain_rdata_text.specs.declared.form.TextForm.{TextForm}
use Rattle.domain_rdata_text.specs.declared.form.TextForm.TheVariants as forms
use Rattle.domain_rdata_text.specs.Addresses.{ipv4_text, read_ipv4}
use Rattle.domain_rdata_text.specs.Base32.{base32_in_words, read_base32}
use Rattle.domain_rdata_text.specs.Base64.{base64_in_words, read_base64, together}
use Rattle.domain_rdata_text.specs.Bitmaps.{bitmaps_of}
use Rattle.domain_rdata_text.specs.Forms.{text_form, may_be_absent}
use Rattle.domain_rdata_text.specs.Ipv6.{ipv6_text, read_ipv6}
use Rattle.domain_rdata_text.specs.Hex.{counted_text, read_counted, hex_in_words, hex_words, generic_words, is_mark_word, read_generic}
use Rattle.domain_rdata_text.specs.Names.{name_text, read_name}
use Rattle.domain_rdata_text.specs.Numbers.{read_number}
use Rattle.domain_rdata_text.specs.Outcome.{fault}
use Rattle.domain_rdata_text.specs.Rtypes.{type_text, read_type, types_words}
use Rattle.domain_rdata_text.specs.Strings.{string_text, read_string, read_quoted}
use Rattle.domain_rdata_text.specs.Times.{read_time}
use Rattle.domain_rdata_text.specs.Ttls.{read_ttl}
use Rattle.domain_rdata_text.specs.Values.{Val, val_octets, vals_octets, is_tag, ValuesAt}
use Rattle.domain_rdata_text.specs.Values.Val.{number8, number16, number32, ttl, time, rtype, ipv4, ipv6, name, string, optional_string, strings, tag, quoted, base16, base64, counted16, counted32, types, optional_types, generic}
use Rattle.domain_rdata_text.specs.Words.{WordAt, split, joined}

-- the words of a string, where there is one
abbrev pub optional_words : Option (List ℕ) → List (List ℕ)
optional_words None = []
optional_words (Some s) = string_text s ∷ []

-- the words of a field
abbrev pub val_words : Val → List (List ℕ)
val_words (number8 n) = decimal n ∷ []
val_words (number16 n) = decimal n ∷ []
val_words (number32 n) = decimal n ∷ []
val_words (ttl n) = decimal n ∷ []
val_words (time n) = decimal n ∷ []
val_words (rtype n) = type_text n ∷ []
val_words (ipv4 os) = ipv4_text os ∷ []
val_words (ipv6 os) = ipv6_text os ∷ []
val_words (name ls) = name_text ls ∷ []
val_words (string s) = string_text s ∷ []
val_words (optional_string o) = optional_words o
val_words (strings ss) = map string_text ss
val_words (tag s) = s ∷ []
val_words (quoted s) = string_text s ∷ []
val_words (base16 os) = hex_in_words os
val_words (base64 os) = base64_in_words os
val_words (counted16 os) = counted_text os ∷ []
val_words (counted32 os) = base32_in_words os
val_words (types ts) = map type_text ts
val_words (optional_types ts) = map type_text ts
val_words (generic os) = []

-- whether a list has a member
abbrev pub is_some_list : {A : Type 0} → List A → Bool
is_some_list [] = false
is_some_list (x ∷ xs) = true

abbrev pub is_nil : {A : Type 0} → List A → Bool
is_nil [] = true
is_nil (x ∷ xs) = false

-- whether the field has a text of its own, which isn't empty unless the field may be
abbrev pub has_text : Val → Bool
has_text (number8 n) = true
has_text (number16 n) = true
has_text (number32 n) = true
has_text (ttl n) = true
has_text (time n) = true
has_text (rtype n) = true
has_text (ipv4 os) = true
has_text (ipv6 os) = true
has_text (name ls) = true
has_text (string s) = true
has_text (optional_string o) = true
has_text (strings ss) = is_some_list ss
has_text (tag s) = true
has_text (quoted s) = true
has_text (base16 os) = is_some_list os
has_text (base64 os) = is_some_list os
has_text (counted16 os) = true
has_text (counted32 os) = is_some_list os
has_text (types ts) = is_some_list ts
has_text (optional_types ts) = true
has_text (generic os) = false

-- whether it takes all remaining words, so that no field follows
abbrev pub takes_all : Val → Bool
takes_all (number8 n) = false
takes_all (number16 n) = false
takes_all (number32 n) = false
takes_all (ttl n) = false
takes_all (time n) = false
takes_all (rtype n) = false
takes_all (ipv4 os) = false
takes_all (ipv6 os) = false
takes_all (name ls) = false
takes_all (string s) = false
takes_all (optional_string o) = true
takes_all (strings ss) = true
takes_all (tag s) = false
takes_all (quoted s) = false
takes_all (base16 os) = true
takes_all (base64 os) = true
takes_all (counted16 os) = false
takes_all (counted32 os) = false
takes_all (types ts) = true
takes_all (optional_types ts) = true
takes_all (generic os) = false

-- Whether data is written field by field: each has a text, and none but the last takes all remaining words.
abbrev pub in_fields : List Val → Bool
in_fields [] = true
in_fields (v ∷ vs) = if has_text v then (if takes_all v then is_nil vs else in_fields vs) else false

-- the words of data: those of its fields, or else its octets in digits
abbrev pub data_words : List Val → List (List ℕ)
data_words vs = if in_fields vs then flat_map val_words vs else generic_words (vals_octets vs)

-- the text of data
abbrev pub data_text : List Val → List ℕ
data_text vs = joined (data_words vs)

-- ---- reading

-- the tag that a word is
abbrev pub read_tag : List ℕ → Option (List ℕ)
read_tag w = if is_tag w then (if nat_le (length w) 255 then Some w else None) else None

-- the octets that were read, and the remaining words
pub record SoFar : Type 0 where
  pub octets : List ℕ
  pub words : List WordAt

abbrev pub so_far : List ℕ → List WordAt → SoFar
so_far os ws = record { octets = os; words = ws }

-- octets, and those of what was read, where something was
abbrev pub with_octets : {A : Type 0} → (A → Val) → List ℕ → Option A → Option (List ℕ)
with_octets f os None = None
with_octets f os (Some a) = Some (os ++ val_octets (f a))

-- octets, and more that were read, where something was
abbrev pub with_more : List ℕ → Option (List ℕ) → Option (List ℕ)
with_more os None = None
with_more os (Some more) = Some (os ++ more)

-- the octets that were read of the word w, where ws are the words after it
abbrev pub one : Reason → WordAt → List WordAt → Option (List ℕ) → Result SoFar Fault
one why w ws None = Err (fault w.begin why)
one why w ws (Some os) = Ok (so_far os ws)

-- the octets that were read of all words
abbrev pub all : Result (List ℕ) Fault → Result SoFar Fault
all (Err why) = Err why
all (Ok os) = Ok (so_far os [])

-- octets, and the bitmaps of types that were read
abbrev pub with_bitmaps : List ℕ → Result (List ℕ) Fault → Result (List ℕ) Fault
with_bitmaps os (Err why) = Err why
with_bitmaps os (Ok ts) = Ok (os ++ bitmaps_of ts)

-- octets that were read of the word at an offset, or the fault that it is no character string
abbrev pub string_or_fault : ℕ → Option (List ℕ) → Result (List ℕ) Fault
string_or_fault offset None = Err (fault offset reasons.CharString)
string_or_fault offset (Some os) = Ok os

-- after octets those of the character strings that words are
abbrev pub strings_words : Result (List ℕ) Fault → List WordAt → Result (List ℕ) Fault
strings_words (Err why) ws = Err why
strings_words (Ok os) [] = Ok os
strings_words (Ok os) (w ∷ ws) = strings_words (string_or_fault w.begin (with_octets string os (read_string w.octets))) ws

-- After octets those of a field that is written so, where w is the next word and ws are those after it. Names go on
-- with the origin o, if there is one.
abbrev pub take_words : Option (List ℕ) → TextForm → List ℕ → WordAt → List WordAt → Result SoFar Fault
take_words o forms.Number8 os w ws = one reasons.Number w ws (with_octets number8 os (read_number 256 w.octets))
take_words o forms.Number16 os w ws = one reasons.Number w ws (with_octets number16 os (read_number 65536 w.octets))
take_words o forms.Number32 os w ws = one reasons.Number w ws (with_octets number32 os (read_number 4294967296 w.octets))
take_words o forms.Ttl os w ws = one reasons.Number w ws (with_octets ttl os (read_ttl w.octets))
take_words o forms.Time os w ws = one reasons.Time w ws (with_octets time os (read_time w.octets))
take_words o forms.Rtype os w ws = one reasons.Rtype w ws (with_octets rtype os (read_type w.octets))
take_words o forms.Ipv4 os w ws = one reasons.Ipv4 w ws (with_octets ipv4 os (read_ipv4 w.octets))
take_words o forms.Ipv6 os w ws = one reasons.Ipv6 w ws (with_octets ipv6 os (read_ipv6 w.octets))
take_words o forms.Name os w ws = one reasons.Name w ws (with_more os (read_name o w.octets))
take_words o forms.CharString os w ws = one reasons.CharString w ws (with_octets string os (read_string w.octets))
take_words o forms.OptionalString os w ws = one reasons.CharString w ws (with_octets string os (read_string w.octets))
take_words o forms.CharStrings os w ws = all (strings_words (Ok os) (w ∷ ws))
take_words o forms.Tag os w ws = one reasons.Tag w ws (with_octets tag os (read_tag w.octets))
take_words o forms.QuotedText os w ws = one reasons.QuotedText w ws (with_octets quoted os (read_quoted w.octets))
take_words o forms.Base16 os w ws = all (hex_words (Ok os) (w ∷ ws))
take_words o forms.Base64 os w ws = one reasons.Base64 w [] (with_octets base64 os (read_base64 (together (w ∷ ws))))
take_words o forms.CountedBase16 os w ws = one reasons.CountedBase16 w ws (with_octets counted16 os (read_counted w.octets))
take_words o forms.CountedBase32 os w ws = one reasons.CountedBase32 w ws (with_octets counted32 os (read_base32 w.octets))
take_words o forms.Types os w ws = all (with_bitmaps os (types_words (Ok []) (w ∷ ws)))
take_words o forms.OptionalTypes os w ws = all (with_bitmaps os (types_words (Ok []) (w ∷ ws)))
take_words o forms.Generic os w ws = Err (fault w.begin reasons.OnlyGeneric)

-- the same, in a text of n octets, where a word may be missing, as it may of a field that is absent
abbrev pub take_field : Option (List ℕ) → ℕ → TextForm → List ℕ → List WordAt → Result SoFar Fault
take_field o n form os [] = if may_be_absent form then Ok (so_far os []) else Err (fault n reasons.MissingWord)
take_field o n form os (w ∷ ws) = take_words o form os w ws

-- the octets that were read, where no word remains
abbrev pub only_fields : List ℕ → List WordAt → Result (List ℕ) Fault
only_fields os [] = Ok os
only_fields os (w ∷ ws) = Err (fault w.begin reasons.ExtraWord)

-- the octets of fields of these kinds, in a text of n octets, after what was read
abbrev pub read_fields : Option (List ℕ) → ℕ → Result SoFar Fault → List FieldKind → Result (List ℕ) Fault
read_fields o n (Err why) ks = Err why
read_fields o n (Ok s) [] = only_fields s.octets s.words
read_fields o n (Ok s) (k ∷ ks) = read_fields o n (take_field o n (text_form k) s.octets s.words) ks

-- the octets of fields, of which record data has at most 65,535 (RFC 1035, 3.2.1)
abbrev pub only_data : ℕ → Result (List ℕ) Fault → Result (List ℕ) Fault
only_data n (Err why) = Err why
only_data n (Ok os) = if nat_le (length os) 65535 then Ok os else Err (fault n reasons.LongData)

-- the octets of fields of these kinds that words say
abbrev pub fields_octets : Option (List ℕ) → List FieldKind → ℕ → List WordAt → Result (List ℕ) Fault
fields_octets o ks n ws = only_data n (read_fields o n (Ok (so_far [] ws)) ks)

-- whether the first word is the mark, and its offset
abbrev pub starts_mark : List WordAt → Bool
starts_mark [] = false
starts_mark (w ∷ ws) = is_mark_word w.octets

abbrev pub mark_offset : List WordAt → ℕ
mark_offset [] = 0
mark_offset (w ∷ ws) = w.begin

-- the octets of data with fields of these kinds that words say: after a mark any octets
abbrev pub words_octets : Option (List ℕ) → List FieldKind → ℕ → List WordAt → Result (List ℕ) Fault
words_octets o ks n ws = if starts_mark ws then read_generic n ws else fields_octets o ks n ws

-- the same, where there are words
abbrev pub split_octets : Option (List ℕ) → List FieldKind → ℕ → Result (List WordAt) Fault → Result (List ℕ) Fault
split_octets o ks n (Err why) = Err why
split_octets o ks n (Ok ws) = words_octets o ks n ws

-- the octets of data with fields of these kinds that a text says, with an origin or without
abbrev pub text_octets_with : Option (List ℕ) → List FieldKind → List ℕ → Result (List ℕ) Fault
text_octets_with o ks text = split_octets o ks (length text) (split text)

-- the same without an origin: each name ends in a dot
abbrev pub text_octets : List FieldKind → List ℕ → Result (List ℕ) Fault
text_octets ks text = text_octets_with None ks text

-- whether the first of words is the mark, and its offset, where there are words
abbrev pub split_starts_mark : Result (List WordAt) Fault → Bool
split_starts_mark (Err why) = false
split_starts_mark (Ok ws) = starts_mark ws

abbrev pub split_mark_offset : Result (List WordAt) Fault → ℕ
split_mark_offset (Err why) = 0
split_mark_offset (Ok ws) = mark_offset ws

-- The text begins with the mark.
abbrev pub IsGenericText : List ℕ → Type 0
IsGenericText text = split_starts_mark (split text) ≡ true

-- The octets are data with fields of these kinds, and no name in it is compressed.
abbrev pub IsPlain : List FieldKind → List ℕ → Type 0
IsPlain ks os = AreData ks os 0 × ((vs : List Val) × (e : ℕ) × ValuesAt ks os 0 vs e × (vals_octets vs ≡ os))

-- They are no such data, or a name in it is compressed.
abbrev pub IsNotPlain : List FieldKind → List ℕ → Type 0
IsNotPlain ks os =
    ((why : DataFault) × AreNoData ks os 0 why)
    ⊎ ((vs : List Val) × (e : ℕ) × ValuesAt ks os 0 vs e × (vals_octets vs ≢ os))

-- Words after a mark at this offset say octets or have a fault. The fault is this one, or the octets aren't such data.
abbrev pub IsGenericFault : List FieldKind → ℕ → Result (List ℕ) Fault → Fault → Type 0
IsGenericFault ks offset said f =
    (said ≡ Err f)
    ⊎ ((os : List ℕ) × (said ≡ Ok os) × (f ≡ fault offset reasons.NotData) × IsNotPlain ks os)

-- With an origin or without, the text says no octets, and this is the fault; or it says octets after a mark that
-- aren't such data.
abbrev pub IsReadFaultWith : Option (List ℕ) → List FieldKind → List ℕ → Fault → Type 0
IsReadFaultWith o ks text f =
    (text_octets_with o ks text ≡ Err f)
    ⊎ (IsGenericText text × ((os : List ℕ) × (text_octets_with o ks text ≡ Ok os)
    × (f ≡ fault (split_mark_offset (split text)) reasons.NotData) × IsNotPlain ks os))

-- the same without an origin
abbrev pub IsReadFault : List FieldKind → List ℕ → Fault → Type 0
IsReadFault ks text f = IsReadFaultWith None ks text f
