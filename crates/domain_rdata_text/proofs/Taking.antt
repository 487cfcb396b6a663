-- What a field is shown as is taken as its octets.
use Rattle.std.proofs.Common.{◌≡◌, ◌∙◌, ℕ, ◌-◌, ◌<◌, ◌≤◌, ◌^◌, true, cond, nat_le, List, [], ◌∷◌, ◌++◌, map, length, Option, Some, None, Result, Ok, refl, sym, ap, append_assoc, append-nil, length-append, arith}
use Rattle.std.specs.List.{AllByRecursion, flat_map}
use Rattle.std.specs.Fmt.{decimal}
use Rattle.std.proofs.lemmas.Bool.{false≢true, cond-true, le-leb}
use Rattle.std.proofs.lemmas.Fmt.{decimal_nonempty}
use Rattle.std.proofs.lemmas.Grind.{common_steps}
use Rattle.domain_rdata_text.specs.declared.error.Fault.{Fault}
use Rattle.domain_rdata_text.specs.declared.error.Reason.{Reason}
use Rattle.domain_rdata_text.specs.declared.error.Reason.TheVariants as reasons
use Rattle.domain_rdata_text.specs.Addresses.{dotted, ipv4_text, with_number, read_ipv4}
use Rattle.domain_rdata_text.specs.Ipv6.{ipv6_text, read_ipv6}
use Rattle.domain_rdata_text.specs.Base32.{base32_text, base32_in_words, read_base32}
use Rattle.domain_rdata_text.specs.Base64.{base64_text, base64_in_words, read_base64}
use Rattle.domain_rdata_text.specs.Bitmaps.{bitmaps_of}
use Rattle.domain_rdata_text.specs.Hex.{hex_text, counted_text, read_counted, octets_or_fault, hex_words, hex_in_words}
use Rattle.domain_rdata_text.specs.Laws.{AreOctets}
use Rattle.domain_rdata_text.specs.Names.{label_text, name_text}
use Rattle.domain_rdata_text.specs.Numbers.{read_number}
use Rattle.domain_rdata_text.specs.Rtypes.{type_text, read_type, type_or_fault, types_words}
use Rattle.domain_rdata_text.specs.Strings.{string_text, only_short, read_string, read_quoted}
use Rattle.domain_rdata_text.specs.Texts.{val_words, has_text, takes_all, read_tag, so_far, with_octets, with_more, with_bitmaps, one, all, string_or_fault, strings_words, take_field}
use Rattle.domain_rdata_text.specs.Times.{read_time}
use Rattle.domain_rdata_text.specs.Ttls.{or_ttl, read_ttl}
use Rattle.domain_rdata_text.specs.Values.{Val, form_of_val, counted, val_octets, is_tag}
use Rattle.domain_rdata_text.specs.Values.Val.{number8, number16, number32, ttl, time, rtype, ipv4, ipv6, name, string, optional_string, strings, tag, quoted, base16, base64, counted16, counted32, types, optional_types, generic}
use Rattle.domain_rdata_text.specs.Words.{WordAt, word}
use Rattle.domain_rdata_text.proofs.Colons.{ipv6_back, bare_ipv6, ipv6_some}
use Rattle.domain_rdata_text.proofs.Digits.{hex_back, bare_hex}
use Rattle.domain_rdata_text.proofs.Dotting.{ipv4_back, bare_ipv4}
use Rattle.domain_rdata_text.proofs.Holding.{IsVal}
use Rattle.domain_rdata_text.proofs.Quintets.{base32_back, bare_base32}
use Rattle.domain_rdata_text.proofs.Reading.{name_back, string_back, quoted_back, number_back}
use Rattle.domain_rdata_text.proofs.Sextets.{base64_back, bare_base64, base64_some}
use Rattle.domain_rdata_text.proofs.Splitting.{IsWord, ends_before, placed, bare_one, bare_name, bare_string, bare_number, bare_letters}
use Rattle.domain_rdata_text.proofs.Seconds.{time_back}
use Rattle.domain_rdata_text.proofs.Strung.{IsString}
use Rattle.domain_rdata_text.proofs.Types.{type_back, bare_type, type_some}
use Rattle.domain_rdata_text.proofs.Windows.{AreTypes, no_bitmaps}

-- ---- each value is of words
label_some : (l rest : List ℕ) → 0 < length (label_text l ++ rest)
label_some l rest = grind (arith, common_steps)

pub name_some : (ls : List (List ℕ)) → 0 < length (name_text ls)
name_some [] = omega arith
name_some (l ∷ ls) = label_some l (flat_map label_text ls)

longer : (u v : List ℕ) → 0 < length u → 0 < length (u ++ v)
longer u v h = omega (arith, h, length-append u v)

ipv4_some : (os : List ℕ) → length os ≡ 4 → AreOctets os → 0 < length (ipv4_text os)
ipv4_some [] h b = absurd (omega (arith, h))
ipv4_some (n ∷ ns) h b = longer (decimal n) (dotted ns) (decimal_nonempty n (omega (arith, b.0)))

pub number_word : (n : ℕ) → n < 2 ^ 64 → IsWord (decimal n)
number_word n h = (bare_number n h, decimal_nonempty n h)

string_word : (s : List ℕ) → AreOctets s → IsWord (string_text s)
string_word s b = (bare_string s b, omega arith)

strings_are_words : (ss : List (List ℕ)) → AllByRecursion IsString ss → AllByRecursion IsWord (map string_text ss)
strings_are_words [] b = tt
strings_are_words (s ∷ ss) b = (string_word s b.0.1, strings_are_words ss b.1)

tag_word : (s : List ℕ) → AreOctets s → is_tag s ≡ true → IsWord s
tag_word [] b t = absurd (false≢true t)
tag_word (c ∷ s) b t = (bare_letters (c ∷ s) b t, omega arith)

pub hex_are_words : (os : List ℕ) → AreOctets os → AllByRecursion IsWord (hex_in_words os)
hex_are_words [] b = tt
hex_are_words (c ∷ os) b = ((bare_hex (c ∷ os) b, omega arith), tt)

counted16_word : (s : List ℕ) → AreOctets s → IsWord (counted_text s)
counted16_word [] b = (bare_one 45 refl, omega arith)
counted16_word (c ∷ os) b = (bare_hex (c ∷ os) b, omega arith)

base32_are_words : (os : List ℕ) → AreOctets os → AllByRecursion IsWord (base32_in_words os)
base32_are_words [] b = tt
base32_are_words (c ∷ os) b = ((bare_base32 (c ∷ os) b, omega arith), tt)

types_are_words : (ts : List ℕ) → AreTypes ts → AllByRecursion IsWord (map type_text ts)
types_are_words [] h = tt
types_are_words (t ∷ ts) h = ((bare_type t h.0, type_some t), types_are_words ts h.1)

base64_are_words : (os : List ℕ) → AreOctets os → AllByRecursion IsWord (base64_in_words os)
base64_are_words [] b = tt
base64_are_words (c ∷ os) b = ((bare_base64 (c ∷ os) b, base64_some c os b.0), tt)

pub are_words : (v : Val) → IsVal v → AllByRecursion IsWord (val_words v)
are_words (number8 n) h = (number_word n (omega (arith, h)), tt)
are_words (number16 n) h = (number_word n (omega (arith, h)), tt)
are_words (number32 n) h = (number_word n (omega (arith, h)), tt)
are_words (ttl n) h = (number_word n (omega (arith, h)), tt)
are_words (time n) h = (number_word n (omega (arith, h)), tt)
are_words (rtype n) h = ((bare_type n h, type_some n), tt)
are_words (ipv4 os) h = ((bare_ipv4 os h.1, ipv4_some os h.0 h.1), tt)
are_words (ipv6 os) h = ((bare_ipv6 os h.1, ipv6_some os h.0 h.1), tt)
are_words (name ls) h = ((bare_name ls h.1, name_some ls), tt)
are_words (string s) h = (string_word s h.1, tt)
are_words (optional_string None) h = tt
are_words (optional_string (Some s)) h = (string_word s h.1, tt)
are_words (strings ss) h = strings_are_words ss h
are_words (tag s) h = (tag_word s h.1 h.2, tt)
are_words (quoted s) h = (string_word s h, tt)
are_words (base16 os) h = hex_are_words os h
are_words (base64 os) h = base64_are_words os h
are_words (counted16 s) h = (counted16_word s h.1, tt)
are_words (counted32 s) h = base32_are_words s h.1
are_words (types ts) h = types_are_words ts h.0
are_words (optional_types ts) h = types_are_words ts h.0
are_words (generic os) h = tt

-- ---- which are taken
one_back : {A : Type 0} (f : A → Val) (why : Reason) (os : List ℕ) (w : WordAt) (ws : List WordAt) (o : Option A) (a : A) → o ≡ Some a
    → one why w ws (with_octets f os o) ≡ Ok (so_far (os ++ val_octets (f a)) ws)
one_back {A} f why os w ws o a e = ap (λ (x : Option A). one why w ws (with_octets f os x)) e

strings_back : (n : ℕ) (ss : List (List ℕ)) → AllByRecursion IsString ss → (os : List ℕ) → strings_words (Ok os) (placed n (map string_text ss)) ≡ Ok (os ++ flat_map counted ss)
strings_back n [] b os = ap Ok (sym (append-nil os))
strings_back n (s ∷ ss) b os =
    let ws = placed n (map string_text ss) in
    let at = ends_before n (map string_text ss) - length (string_text s) in
    ap (λ (x : Option (List ℕ)). strings_words (string_or_fault at (with_octets string os x)) ws) (string_back s b.0.0 b.0.1)
    ∙ (strings_back n ss b.1 (os ++ counted s) ∙ ap Ok (append_assoc os (counted s) (flat_map counted ss)))

tag_back : (s : List ℕ) → length s ≤ 255 → is_tag s ≡ true → read_tag s ≡ Some s
tag_back s h t =
    cond-true (is_tag s) (cond (nat_le (length s) 255) (Some s) None) None t ∙ cond-true (nat_le (length s) 255) (Some s) None (le-leb (length s) 255 h)

hex_taken : (n : ℕ) (c : ℕ) (cs : List ℕ) → AreOctets (c ∷ cs) → (os : List ℕ) → hex_words (Ok os) (placed n (hex_in_words (c ∷ cs))) ≡ Ok (os ++ c ∷ cs)
hex_taken n c cs b os =
    let at = n - length (hex_text (c ∷ cs)) in
    ap (λ (x : Option (List ℕ)). hex_words (octets_or_fault at x) []) (hex_back (c ∷ cs) b os)

counted16_back : (s : List ℕ) → length s ≤ 255 → AreOctets s → read_counted (counted_text s) ≡ Some s
counted16_back [] h b = refl
counted16_back (c ∷ os) h b =
    ap only_short (hex_back (c ∷ os) b []) ∙ cond-true (nat_le (length (c ∷ os)) 255) (Some (c ∷ os)) None (le-leb (length (c ∷ os)) 255 h)

base64_taken : (c : ℕ) (cs : List ℕ) → AreOctets (c ∷ cs) → read_base64 (base64_text (c ∷ cs) ++ []) ≡ Some (c ∷ cs)
base64_taken c cs b = ap read_base64 (append-nil (base64_text (c ∷ cs))) ∙ base64_back (c ∷ cs) b

types_back : (n : ℕ) (ts : List ℕ) → AreTypes ts → (us : List ℕ) → types_words (Ok us) (placed n (map type_text ts)) ≡ Ok (us ++ ts)
types_back n [] h us = ap Ok (sym (append-nil us))
types_back n (t ∷ ts) h us =
    let ws = placed n (map type_text ts) in
    let at = ends_before n (map type_text ts) - length (type_text t) in
    ap (λ (x : Option ℕ). types_words (type_or_fault at (with_number us x)) ws) (type_back t h.0)
    ∙ (types_back n ts h.1 (us ++ t ∷ []) ∙ ap Ok (append_assoc us (t ∷ []) ts))

types_taken : (n : ℕ) (ts : List ℕ) → AreTypes ts → (os : List ℕ) → all (with_bitmaps os (types_words (Ok []) (placed n (map type_text ts)))) ≡ Ok (so_far (os ++ bitmaps_of ts) [])
types_taken n ts h os = ap (λ (x : Result (List ℕ) Fault). all (with_bitmaps os x)) (types_back n ts h [])

pub hex_all_back : (n : ℕ) (os : List ℕ) → AreOctets os → hex_words (Ok []) (placed n (hex_in_words os)) ≡ Ok os
hex_all_back n [] b = refl
hex_all_back n (c ∷ cs) b = hex_taken n c cs b []

-- what takes all words is the last
no_others : (us vs : List (List ℕ)) → vs ≡ [] → us ++ vs ≡ us
no_others us vs none = ap (λ (x : List (List ℕ)). us ++ x) none ∙ append-nil us

-- digits alone are that number
ttl_back : (n : ℕ) → n < 4294967296 → read_ttl (decimal n) ≡ Some n
ttl_back n h = ap (λ (x : Option ℕ). or_ttl x (decimal n)) (number_back 4294967296 n h (omega (arith, h)))

pub taken_back : (origin : Option (List ℕ)) (n len : ℕ) (v : Val) (us : List (List ℕ)) → IsVal v → has_text v ≡ true → (takes_all v ≡ true → us ≡ []) → (os : List ℕ)
    → take_field origin len (form_of_val v) os (placed n (val_words v ++ us)) ≡ Ok (so_far (os ++ val_octets v) (placed n us))
taken_back origin n len (number8 x) us h t l os =
    one_back number8 reasons.Number os (word (ends_before n us - length (decimal x)) (decimal x)) (placed n us) (read_number 256 (decimal x)) x (number_back 256 x h (omega (arith, h)))
taken_back origin n len (number16 x) us h t l os =
    one_back number16 reasons.Number os (word (ends_before n us - length (decimal x)) (decimal x)) (placed n us) (read_number 65536 (decimal x)) x (number_back 65536 x h (omega (arith, h)))
taken_back origin n len (number32 x) us h t l os =
    one_back number32 reasons.Number os (word (ends_before n us - length (decimal x)) (decimal x)) (placed n us) (read_number 4294967296 (decimal x)) x (number_back 4294967296 x h (omega (arith, h)))
taken_back origin n len (ttl x) us h t l os =
    one_back ttl reasons.Number os (word (ends_before n us - length (decimal x)) (decimal x)) (placed n us) (read_ttl (decimal x)) x (ttl_back x h)
taken_back origin n len (time x) us h t l os =
    one_back time reasons.Time os (word (ends_before n us - length (decimal x)) (decimal x)) (placed n us) (read_time (decimal x)) x (time_back x h)
taken_back origin n len (rtype x) us h t l os =
    one_back rtype reasons.Rtype os (word (ends_before n us - length (type_text x)) (type_text x)) (placed n us) (read_type (type_text x)) x (type_back x h)
taken_back origin n len (ipv4 o) us h t l os =
    one_back ipv4 reasons.Ipv4 os (word (ends_before n us - length (ipv4_text o)) (ipv4_text o)) (placed n us) (read_ipv4 (ipv4_text o)) o (ipv4_back o h.0 h.1)
taken_back origin n len (ipv6 o) us h t l os =
    one_back ipv6 reasons.Ipv6 os (word (ends_before n us - length (ipv6_text o)) (ipv6_text o)) (placed n us) (read_ipv6 (ipv6_text o)) o (ipv6_back o h.0 h.1)
taken_back origin n len (name ls) us h t l os =
    let w = word (ends_before n us - length (name_text ls)) (name_text ls) in
    ap (λ (x : Option (List ℕ)). one reasons.Name w (placed n us) (with_more os x)) (name_back origin ls h.0 h.1)
taken_back origin n len (string s) us h t l os =
    one_back string reasons.CharString os (word (ends_before n us - length (string_text s)) (string_text s)) (placed n us) (read_string (string_text s)) s (string_back s h.0 h.1)
taken_back origin n len (optional_string None) us h t l os =
    let none = l refl in
    ap (λ (y : List (List ℕ)). take_field origin len (form_of_val (optional_string None)) os (placed n y)) none
    ∙ (ap (λ (y : List ℕ). Ok (so_far y [])) (sym (append-nil os))
    ∙ ap (λ (y : List (List ℕ)). Ok (so_far (os ++ []) (placed n y))) (sym none))
taken_back origin n len (optional_string (Some s)) us h t l os =
    one_back string reasons.CharString os (word (ends_before n us - length (string_text s)) (string_text s)) (placed n us) (read_string (string_text s)) s (string_back s h.0 h.1)
taken_back origin n len (strings []) us h t l os = absurd (false≢true t)
taken_back origin n len (strings (s ∷ ss)) us h t l os =
    let none = l refl in
    let same = no_others (map string_text (s ∷ ss)) us none in
    ap (λ (x : List (List ℕ)). take_field origin len (form_of_val (strings (s ∷ ss))) os (placed n x)) same
    ∙ (ap (λ (x : Result (List ℕ) Fault). all x) (strings_back n (s ∷ ss) h os)
    ∙ ap (λ (x : List (List ℕ)). Ok (so_far (os ++ val_octets (strings (s ∷ ss))) (placed n x))) (sym none))
taken_back origin n len (tag s) us h t l os =
    one_back tag reasons.Tag os (word (ends_before n us - length s) s) (placed n us) (read_tag s) s (tag_back s h.0 h.2)
taken_back origin n len (quoted s) us h t l os =
    one_back quoted reasons.QuotedText os (word (ends_before n us - length (string_text s)) (string_text s)) (placed n us) (read_quoted (string_text s)) s (quoted_back s h)
taken_back origin n len (base16 []) us h t l os = absurd (false≢true t)
taken_back origin n len (base16 (c ∷ cs)) us h t l os =
    let none = l refl in
    let same = no_others (hex_in_words (c ∷ cs)) us none in
    ap (λ (x : List (List ℕ)). take_field origin len (form_of_val (base16 (c ∷ cs))) os (placed n x)) same
    ∙ (ap (λ (x : Result (List ℕ) Fault). all x) (hex_taken n c cs h os)
    ∙ ap (λ (x : List (List ℕ)). Ok (so_far (os ++ c ∷ cs) (placed n x))) (sym none))
taken_back origin n len (base64 []) us h t l os = absurd (false≢true t)
taken_back origin n len (base64 (c ∷ cs)) us h t l os =
    let none = l refl in
    let text = base64_text (c ∷ cs) in
    let same = no_others (base64_in_words (c ∷ cs)) us none in
    ap (λ (x : List (List ℕ)). take_field origin len (form_of_val (base64 (c ∷ cs))) os (placed n x)) same
    ∙ (one_back base64 reasons.Base64 os (word (n - length text) text) [] (read_base64 (text ++ [])) (c ∷ cs) (base64_taken c cs h)
    ∙ ap (λ (x : List (List ℕ)). Ok (so_far (os ++ c ∷ cs) (placed n x))) (sym none))
taken_back origin n len (counted16 s) us h t l os =
    one_back counted16 reasons.CountedBase16 os (word (ends_before n us - length (counted_text s)) (counted_text s)) (placed n us) (read_counted (counted_text s)) s (counted16_back s h.0 h.1)
taken_back origin n len (counted32 []) us h t l os = absurd (false≢true t)
taken_back origin n len (counted32 (c ∷ cs)) us h t l os =
    let text = base32_text (c ∷ cs) in
    one_back counted32 reasons.CountedBase32 os (word (ends_before n us - length text) text) (placed n us) (read_base32 text) (c ∷ cs) (base32_back c cs h.0 h.1)
taken_back origin n len (types []) us h t l os = absurd (false≢true t)
taken_back origin n len (types (x ∷ ts)) us h t l os =
    let none = l refl in
    let same = no_others (map type_text (x ∷ ts)) us none in
    ap (λ (y : List (List ℕ)). take_field origin len (form_of_val (types (x ∷ ts))) os (placed n y)) same
    ∙ (types_taken n (x ∷ ts) h.0 os
    ∙ ap (λ (y : List (List ℕ)). Ok (so_far (os ++ bitmaps_of (x ∷ ts)) (placed n y))) (sym none))
taken_back origin n len (optional_types []) us h t l os =
    let none = l refl in
    ap (λ (y : List (List ℕ)). take_field origin len (form_of_val (optional_types [])) os (placed n y)) none
    ∙ (ap (λ (y : List ℕ). Ok (so_far y [])) (sym (append-nil os) ∙ ap (λ (y : List ℕ). os ++ y) (sym no_bitmaps))
    ∙ ap (λ (y : List (List ℕ)). Ok (so_far (os ++ bitmaps_of []) (placed n y))) (sym none))
taken_back origin n len (optional_types (x ∷ ts)) us h t l os =
    let none = l refl in
    let same = no_others (map type_text (x ∷ ts)) us none in
    ap (λ (y : List (List ℕ)). take_field origin len (form_of_val (optional_types (x ∷ ts))) os (placed n y)) same
    ∙ (types_taken n (x ∷ ts) h.0 os
    ∙ ap (λ (y : List (List ℕ)). Ok (so_far (os ++ bitmaps_of (x ∷ ts)) (placed n y))) (sym none))
taken_back origin n len (generic o) us h t l os = absurd (false≢true t)
