-- No word of a field is the mark of data of any type.
use Rattle.std.proofs.Common.{◌≡◌, ◌∙◌, ℕ, ◌+◌, ◌/◌, ◌%◌, ◌<◌, ◌^◌, Bool, true, false, ◌==◌, ◌||◌, List, [], ◌∷◌, ◌++◌, length, Some, None, refl, ap, arith}
use mathlib.Core.Bool.{not}
use Rattle.std.specs.Char.{is_ascii_alphanumeric}
use Rattle.std.specs.List.{AllByRecursion, flat_map, list_all}
use Rattle.std.specs.Fmt.{decimal}
use Rattle.std.proofs.lemmas.Bool.{false≢true, agree_below_at, and_left, and_parts, not-true}
use Rattle.std.proofs.lemmas.Fmt.{decimal_by_steps}
use Rattle.domain_rdata_text.specs.Addresses.{dotted, ipv4_text}
use Rattle.domain_rdata_text.specs.Ipv6.{ipv6_text}
use Rattle.domain_rdata_text.specs.Base32.{base32_digit, base32_rest}
use Rattle.domain_rdata_text.specs.Base64.{base64_text}
use Rattle.domain_rdata_text.specs.declared.base32.Low.TheVariants as lows
use Rattle.domain_rdata_text.specs.Hex.{hex_digit, hex_text, is_mark_word}
use Rattle.domain_rdata_text.specs.Laws.{AreOctets}
use Rattle.domain_rdata_text.specs.Names.{label_octet, label_text, name_text, is_special, is_unprinted, is_name}
use Rattle.domain_rdata_text.specs.Rtypes.{type_text}
use Rattle.domain_rdata_text.specs.Strings.{quoted_octet, string_text}
use Rattle.domain_rdata_text.specs.Symbols.{octet_text}
use Rattle.domain_rdata_text.specs.Texts.{val_words, starts_mark, has_text, takes_all}
use Rattle.domain_rdata_text.specs.Values.{Val, is_tag}
use Rattle.domain_rdata_text.specs.Values.Val.{number8, number16, number32, ttl, time, rtype, ipv4, ipv6, name, string, optional_string, strings, tag, quoted, base16, base64, counted16, counted32, types, optional_types, generic}
use Rattle.domain_rdata_text.proofs.Colons.{ipv6_begins}
use Rattle.domain_rdata_text.proofs.Holding.{IsVal}
use Rattle.domain_rdata_text.proofs.Quintets.{digit_no_slash}
use Rattle.domain_rdata_text.proofs.Sextets.{base64_begins}
use Rattle.domain_rdata_text.proofs.Splitting.{placed}
use Rattle.domain_rdata_text.proofs.Types.{type_begins}
use Rattle.domain_rdata_text.proofs.Tables.{second, label_no_slash}

-- it begins with an octet that is no backslash
abbrev BeginsPlain : List ℕ → Type 0
BeginsPlain u = (c : ℕ) × (rest : List ℕ) × (u ≡ c ∷ rest) × ((c == 92) ≡ false)

plain_first : (c : ℕ) (rest : List ℕ) → (c == 92) ≡ false → is_mark_word (c ∷ rest) ≡ false
plain_first c [] h = refl
plain_first c (d ∷ []) h = and_left (c == 92) (d == 35) h
plain_first c (d ∷ e ∷ rest) h = refl

no_mark : (u : List ℕ) → BeginsPlain u → is_mark_word u ≡ false
no_mark u (c, rest, is, h) = ap is_mark_word is ∙ plain_first c rest h

plain_more : (u v : List ℕ) → BeginsPlain u → BeginsPlain (u ++ v)
plain_more u v (c, rest, is, h) = (c, rest ++ v, ap (λ (x : List ℕ). x ++ v) is, h)

-- ---- numbers and addresses
digit_plain : (d : ℕ) → d < 10 → (48 + d == 92) ≡ false
digit_plain d h = agree_below_at (λ n. 48 + n == 92) (λ n. false) 10 d refl h

decimal_plain : (n : ℕ) → n < 2 ^ 64 → BeginsPlain (decimal n)
decimal_plain n h = decimal_by_steps (λ m ds. BeginsPlain ds) (λ m low. (48 + m, [], refl, digit_plain m low))
    (λ m ds high before. plain_more ds ((48 + m % 10) ∷ []) before) n h

ipv4_plain : (os : List ℕ) → length os ≡ 4 → AreOctets os → BeginsPlain (ipv4_text os)
ipv4_plain [] h b = absurd (omega (arith, h))
ipv4_plain (n ∷ os) h b = plain_more (decimal n) (dotted os) (decimal_plain n (omega (arith, b.0)))

-- ---- names
three_octets : (a b : ℕ) (u v : List ℕ) → is_mark_word (a ∷ b ∷ ((u ++ 46 ∷ []) ++ v)) ≡ false
three_octets a b [] v = refl
three_octets a b (c ∷ u) v = refl

name_octet : (s t : Bool) (c : ℕ) (u v : List ℕ) → (s ≡ false → t ≡ false → (c == 92) ≡ false) → is_mark_word (((octet_text s t c ++ u) ++ 46 ∷ []) ++ v) ≡ false
name_octet true t c u v h = three_octets 92 c u v
name_octet false true c u v h = refl
name_octet false false c u v h = plain_first c ((u ++ 46 ∷ []) ++ v) (h refl refl)

name_no_mark : (ls : List (List ℕ)) → is_name ls ≡ true → AllByRecursion AreOctets ls → is_mark_word (name_text ls) ≡ false
name_no_mark [] n b = refl
name_no_mark ([] ∷ ls) n b = absurd (false≢true n)
name_no_mark ((c ∷ l) ∷ ls) n b =
    name_octet (is_special c) (is_unprinted c) c (flat_map label_octet l) (flat_map label_text ls) (label_no_slash c b.0.0)

-- ---- tags and digits
letter_plain : (c : ℕ) → c < 256 → is_ascii_alphanumeric c ≡ true → (c == 92) ≡ false
letter_plain c h e = not-true (c == 92) (second (is_ascii_alphanumeric c) (not (c == 92)) (agree_below_at (λ n. not (is_ascii_alphanumeric n) || not (n == 92)) (λ n. true) 256 c refl h) e)

tag_no_mark : (s : List ℕ) → AreOctets s → is_tag s ≡ true → is_mark_word s ≡ false
tag_no_mark [] b t = refl
tag_no_mark (c ∷ s) b t = plain_first c s (letter_plain c b.0 (and_parts (is_ascii_alphanumeric c) (list_all is_ascii_alphanumeric s) t).0)

hex_plain : (c : ℕ) → c < 256 → (hex_digit (c / 16) == 92) ≡ false
hex_plain c h = agree_below_at (λ n. hex_digit (n / 16) == 92) (λ n. false) 256 c refl h

string_no_mark : (s : List ℕ) → is_mark_word (string_text s) ≡ false
string_no_mark s = plain_first 34 (flat_map quoted_octet s ++ 34 ∷ []) refl

-- the first word of a field that has a text is no mark, nor is there one where it has none
pub first_no_mark : (n : ℕ) (v : Val) (us : List (List ℕ)) → IsVal v → has_text v ≡ true → (takes_all v ≡ true → us ≡ []) → starts_mark (placed n (val_words v ++ us)) ≡ false
first_no_mark n (number8 x) us h t l = no_mark (decimal x) (decimal_plain x (omega (arith, h)))
first_no_mark n (number16 x) us h t l = no_mark (decimal x) (decimal_plain x (omega (arith, h)))
first_no_mark n (number32 x) us h t l = no_mark (decimal x) (decimal_plain x (omega (arith, h)))
first_no_mark n (ttl x) us h t l = no_mark (decimal x) (decimal_plain x (omega (arith, h)))
first_no_mark n (time x) us h t l = no_mark (decimal x) (decimal_plain x (omega (arith, h)))
first_no_mark n (rtype x) us h t l = no_mark (type_text x) (type_begins x)
first_no_mark n (ipv4 os) us h t l = no_mark (ipv4_text os) (ipv4_plain os h.0 h.1)
first_no_mark n (ipv6 os) us h t l = no_mark (ipv6_text os) (ipv6_begins os h.0 h.1)
first_no_mark n (name ls) us h t l = name_no_mark ls h.0 h.1
first_no_mark n (string s) us h t l = string_no_mark s
first_no_mark n (optional_string None) us h t l = ap (λ (x : List (List ℕ)). starts_mark (placed n x)) (l refl)
first_no_mark n (optional_string (Some s)) us h t l = string_no_mark s
first_no_mark n (strings []) us h t l = absurd (false≢true t)
first_no_mark n (strings (s ∷ ss)) us h t l = string_no_mark s
first_no_mark n (tag s) us h t l = tag_no_mark s h.1 h.2
first_no_mark n (quoted s) us h t l = string_no_mark s
first_no_mark n (base16 []) us h t l = absurd (false≢true t)
first_no_mark n (base16 (c ∷ os)) us h t l = plain_first (hex_digit (c / 16)) (hex_digit (c % 16) ∷ hex_text os) (hex_plain c h.0)
first_no_mark n (base64 []) us h t l = absurd (false≢true t)
first_no_mark n (base64 (c ∷ os)) us h t l = no_mark (base64_text (c ∷ os)) (base64_begins c os h.0)
first_no_mark n (counted16 []) us h t l = refl
first_no_mark n (counted16 (c ∷ os)) us h t l = plain_first (hex_digit (c / 16)) (hex_digit (c % 16) ∷ hex_text os) (hex_plain c h.1.0)
first_no_mark n (counted32 []) us h t l = absurd (false≢true t)
first_no_mark n (counted32 (c ∷ os)) us h t l = plain_first (base32_digit (c / 8)) (base32_rest (lows.Three (c % 8)) os) (digit_no_slash (c / 8) (omega (arith, h.1.0)))
first_no_mark n (types []) us h t l = absurd (false≢true t)
first_no_mark n (types (x ∷ ts)) us h t l = no_mark (type_text x) (type_begins x)
first_no_mark n (optional_types []) us h t l = ap (λ (x : List (List ℕ)). starts_mark (placed n x)) (l refl)
first_no_mark n (optional_types (x ∷ ts)) us h t l = no_mark (type_text x) (type_begins x)
first_no_mark n (generic os) us h t l = absurd (false≢true t)
