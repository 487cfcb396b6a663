-- What octets of a field hold.
use Rattle.std.proofs.Common.{◌≡◌, ◌∙◌, ℕ, ◌+◌, ◌*◌, ◌-◌, ◌/◌, ◌%◌, ◌<◌, ◌≤◌, Bool, true, false, ◌==◌, ◌&&◌, cond, nat_lt, nat_le, List, [], ◌∷◌, ◌++◌, length, Option, Some, None, slice_range, refl, sym, subst, ap, inl, inr, length-append, arith}
use Rattle.std.specs.List.{AllByRecursion, flat_map}
use Rattle.std.proofs.lemmas.Bool.{false≢true, eqb-true, lt-ltb, le-leb, leb-true, and_from, and_parts, cond-true, cond_both}
use Rattle.domain_label.specs.Wire.{wire, Root, IsAbsolute}
use Rattle.domain_reading.proofs.Reading.{names_absolute}
use Rattle.domain_reading.specs.Grammar.{LabelAt, Reads, Names}
use Rattle.domain_reading.specs.Grammar.Reads.{root, label, pointer}
use Rattle.domain_descriptor.specs.declared.kind.FieldKind.{FieldKind}
use Rattle.domain_rdata_text.specs.declared.form.TextForm.{TextForm}
use Rattle.domain_rdata_text.specs.declared.form.TextForm.TheVariants as forms
use Rattle.domain_rdata_text.specs.declared.value.Open.TheVariants.{Between}
use Rattle.domain_rdata_text.specs.Bitmaps.{bitmaps_of, types_of_bitmaps}
use Rattle.domain_rdata_text.specs.Forms.{text_form}
use Rattle.domain_rdata_text.specs.Laws.{AreOctets}
use Rattle.domain_rdata_text.specs.Names.{is_name, are_labels_in}
use Rattle.domain_rdata_text.specs.Texts.{has_text}
use Rattle.domain_rdata_text.specs.Values.{Val, form_of_val, counted, val_octets, vals_octets, val_in, number8_in, number16_in, rtype_in, number32_in, ttl_in, time_in, ipv4_in, ipv6_in, string_in, optional_string_in, counted16_in, counted32_in, types_or, optional_types_or, strings_in, strings_or, is_tag, tag_in, ValueAt, ValuesAt}
use Rattle.domain_rdata_text.specs.Values.Val.{number8, number16, number32, ttl, time, rtype, ipv4, ipv6, name, string, optional_string, strings, tag, quoted, base16, base64, counted16, counted32, types, optional_types, generic}
use Rattle.domain_rdata_text.proofs.Octets.{octets_append, octets_range, same_pair}
use Rattle.domain_rdata_text.proofs.Strung.{IsString, octets_of, all_short}
use Rattle.domain_rdata_text.proofs.Windows.{AreTypes, are_bitmaps}

-- a string of at most 255 octets, or none
abbrev pub IsOptional : Option (List ℕ) → Type 0
IsOptional None = Unit {0}
IsOptional (Some s) = (length s ≤ 255) × AreOctets s

-- A field can hold this: a number of so many bits, four octets or sixteen, a name of at most 255 octets, strings of at
-- most 255, types of 16 bits.
abbrev pub IsVal : Val → Type 0
IsVal (number8 n) = n < 256
IsVal (number16 n) = n < 65536
IsVal (number32 n) = n < 4294967296
IsVal (ttl n) = n < 4294967296
IsVal (time n) = n < 4294967296
IsVal (rtype n) = n < 65536
IsVal (ipv4 os) = (length os ≡ 4) × AreOctets os
IsVal (ipv6 os) = (length os ≡ 16) × AreOctets os
IsVal (name ls) = (is_name ls ≡ true) × AllByRecursion AreOctets ls
IsVal (string s) = (length s ≤ 255) × AreOctets s
IsVal (optional_string o) = IsOptional o
IsVal (strings ss) = AllByRecursion IsString ss
IsVal (tag s) = (length s ≤ 255) × AreOctets s × (is_tag s ≡ true)
IsVal (quoted s) = AreOctets s
IsVal (base16 os) = AreOctets os
IsVal (base64 os) = AreOctets os
IsVal (counted16 s) = (length s ≤ 255) × AreOctets s
IsVal (counted32 s) = (length s ≤ 255) × AreOctets s
IsVal (types ts) = AreTypes ts × AreOctets (bitmaps_of ts)
IsVal (optional_types ts) = AreTypes ts × AreOctets (bitmaps_of ts)
IsVal (generic os) = AreOctets os

-- what is written so, where it has a text
abbrev pub IsWritten : TextForm → Val → Type 0
IsWritten form v = has_text v ≡ true → form ≡ form_of_val v

-- it is of its octets, can be held, and is written as its form says
pub record Held (form : TextForm) (os : List ℕ) (v : Val) : Type 0 where
  pub octets : val_octets v ≡ os
  pub val : IsVal v
  pub written : IsWritten form v

held_generic : (form : TextForm) (os : List ℕ) → AreOctets os → Held form os (generic os)
held_generic form os b = record { octets = refl; val = b; written = λ e. absurd (false≢true e) }

-- ---- numbers
octets16 : (a b : ℕ) → a < 256 → b < 256 → val_octets (number16 (a * 256 + b)) ≡ a ∷ b ∷ []
octets16 a b ha hb = same_pair a b ((a * 256 + b) / 256) ((a * 256 + b) % 256) (omega (arith, ha, hb)) (omega (arith, ha, hb))

abbrev number_of : ℕ → ℕ → ℕ → ℕ → ℕ
number_of a b c d = a * 16777216 + b * 65536 + c * 256 + d

first_of_four : (a b c d : ℕ) → b < 256 → c < 256 → d < 256 → number_of a b c d / 16777216 ≡ a
first_of_four a b c d hb hc hd = omega (arith, hb, hc, hd)

second_of_four : (a b c d : ℕ) → b < 256 → c < 256 → d < 256 → number_of a b c d / 65536 % 256 ≡ b
second_of_four a b c d hb hc hd = omega (arith, hb, hc, hd)

third_of_four : (a b c d : ℕ) → b < 256 → c < 256 → d < 256 → number_of a b c d / 256 % 256 ≡ c
third_of_four a b c d hb hc hd = omega (arith, hb, hc, hd)

fourth_of_four : (a b c d : ℕ) → d < 256 → number_of a b c d % 256 ≡ d
fourth_of_four a b c d hd = omega (arith, hd)

octets32 : (a b c d : ℕ) → b < 256 → c < 256 → d < 256 → val_octets (number32 (number_of a b c d)) ≡ a ∷ b ∷ c ∷ d ∷ []
octets32 a b c d hb hc hd =
    let n = number_of a b c d in
    ap (λ (x : ℕ). x ∷ (n / 65536 % 256) ∷ (n / 256 % 256) ∷ (n % 256) ∷ []) (first_of_four a b c d hb hc hd)
    ∙ ap (λ (x : ℕ). a ∷ x ∷ (n / 256 % 256) ∷ (n % 256) ∷ []) (second_of_four a b c d hb hc hd)
    ∙ ap (λ (x : ℕ). a ∷ b ∷ x ∷ (n % 256) ∷ []) (third_of_four a b c d hb hc hd)
    ∙ ap (λ (x : ℕ). a ∷ b ∷ c ∷ x ∷ []) (fourth_of_four a b c d hd)

low32 : (a b c d : ℕ) → a < 256 → b < 256 → c < 256 → d < 256 → number_of a b c d < 4294967296
low32 a b c d ha hb hc hd = omega (arith, ha, hb, hc, hd)

held8 : (os : List ℕ) → AreOctets os → Held forms.Number8 os (number8_in os)
held8 [] h = held_generic forms.Number8 [] h
held8 (a ∷ []) h = record { octets = refl; val = h.0; written = λ _. refl }
held8 (a ∷ b ∷ os) h = held_generic forms.Number8 (a ∷ b ∷ os) h

held16 : (os : List ℕ) → AreOctets os → Held forms.Number16 os (number16_in os)
held16 [] h = held_generic forms.Number16 [] h
held16 (a ∷ []) h = held_generic forms.Number16 (a ∷ []) h
held16 (a ∷ b ∷ []) h = record { octets = octets16 a b h.0 h.1.0; val = omega (arith, h.0, h.1.0); written = λ _. refl }
held16 (a ∷ b ∷ c ∷ os) h = held_generic forms.Number16 (a ∷ b ∷ c ∷ os) h

held_rtype : (os : List ℕ) → AreOctets os → Held forms.Rtype os (rtype_in os)
held_rtype [] h = held_generic forms.Rtype [] h
held_rtype (a ∷ []) h = held_generic forms.Rtype (a ∷ []) h
held_rtype (a ∷ b ∷ []) h = record { octets = octets16 a b h.0 h.1.0; val = omega (arith, h.0, h.1.0); written = λ _. refl }
held_rtype (a ∷ b ∷ c ∷ os) h = held_generic forms.Rtype (a ∷ b ∷ c ∷ os) h

held32 : (os : List ℕ) → AreOctets os → Held forms.Number32 os (number32_in os)
held32 [] h = held_generic forms.Number32 [] h
held32 (a ∷ []) h = held_generic forms.Number32 (a ∷ []) h
held32 (a ∷ b ∷ []) h = held_generic forms.Number32 (a ∷ b ∷ []) h
held32 (a ∷ b ∷ c ∷ []) h = held_generic forms.Number32 (a ∷ b ∷ c ∷ []) h
held32 (a ∷ b ∷ c ∷ d ∷ []) h =
    record { octets = octets32 a b c d h.1.0 h.1.1.0 h.1.1.1.0; val = low32 a b c d h.0 h.1.0 h.1.1.0 h.1.1.1.0; written = λ _. refl }
held32 (a ∷ b ∷ c ∷ d ∷ e ∷ os) h = held_generic forms.Number32 (a ∷ b ∷ c ∷ d ∷ e ∷ os) h

held_ttl : (os : List ℕ) → AreOctets os → Held forms.Ttl os (ttl_in os)
held_ttl [] h = held_generic forms.Ttl [] h
held_ttl (a ∷ []) h = held_generic forms.Ttl (a ∷ []) h
held_ttl (a ∷ b ∷ []) h = held_generic forms.Ttl (a ∷ b ∷ []) h
held_ttl (a ∷ b ∷ c ∷ []) h = held_generic forms.Ttl (a ∷ b ∷ c ∷ []) h
held_ttl (a ∷ b ∷ c ∷ d ∷ []) h =
    record { octets = octets32 a b c d h.1.0 h.1.1.0 h.1.1.1.0; val = low32 a b c d h.0 h.1.0 h.1.1.0 h.1.1.1.0; written = λ _. refl }
held_ttl (a ∷ b ∷ c ∷ d ∷ e ∷ os) h = held_generic forms.Ttl (a ∷ b ∷ c ∷ d ∷ e ∷ os) h

held_time : (os : List ℕ) → AreOctets os → Held forms.Time os (time_in os)
held_time [] h = held_generic forms.Time [] h
held_time (a ∷ []) h = held_generic forms.Time (a ∷ []) h
held_time (a ∷ b ∷ []) h = held_generic forms.Time (a ∷ b ∷ []) h
held_time (a ∷ b ∷ c ∷ []) h = held_generic forms.Time (a ∷ b ∷ c ∷ []) h
held_time (a ∷ b ∷ c ∷ d ∷ []) h =
    record { octets = octets32 a b c d h.1.0 h.1.1.0 h.1.1.1.0; val = low32 a b c d h.0 h.1.0 h.1.1.0 h.1.1.1.0; written = λ _. refl }
held_time (a ∷ b ∷ c ∷ d ∷ e ∷ os) h = held_generic forms.Time (a ∷ b ∷ c ∷ d ∷ e ∷ os) h

-- ---- octets and strings
held_ipv4 : (os : List ℕ) → AreOctets os → Held forms.Ipv4 os (ipv4_in os)
held_ipv4 os h = cond_both (length os == 4) (ipv4 os) (generic os) (λ v. Held forms.Ipv4 os v)
    (λ e. record { octets = refl; val = (eqb-true (length os) 4 e, h); written = λ _. refl })
    (λ e. held_generic forms.Ipv4 os h)

held_ipv6 : (os : List ℕ) → AreOctets os → Held forms.Ipv6 os (ipv6_in os)
held_ipv6 os h = cond_both (length os == 16) (ipv6 os) (generic os) (λ v. Held forms.Ipv6 os v)
    (λ e. record { octets = refl; val = (eqb-true (length os) 16 e, h); written = λ _. refl })
    (λ e. held_generic forms.Ipv6 os h)

counted_is : (n : ℕ) (s : List ℕ) → (length s == n) ≡ true → counted s ≡ n ∷ s
counted_is n s e = ap (λ (x : ℕ). x ∷ s) (eqb-true (length s) n e)

counted_short : (n : ℕ) (s : List ℕ) → n < 256 → (length s == n) ≡ true → length s ≤ 255
counted_short n s low e = omega (arith, low, eqb-true (length s) n e)

held_string : (os : List ℕ) → AreOctets os → Held forms.CharString os (string_in os)
held_string [] h = held_generic forms.CharString [] h
held_string (n ∷ s) h = cond_both (length s == n) (string s) (generic (n ∷ s)) (λ v. Held forms.CharString (n ∷ s) v)
    (λ e. record { octets = counted_is n s e; val = (counted_short n s h.0 e, h.1); written = λ _. refl })
    (λ e. held_generic forms.CharString (n ∷ s) h)

held_optional_string : (os : List ℕ) → AreOctets os → Held forms.OptionalString os (optional_string_in os)
held_optional_string [] h = record { octets = refl; val = tt; written = λ _. refl }
held_optional_string (n ∷ s) h = cond_both (length s == n) (optional_string (Some s)) (generic (n ∷ s)) (λ v. Held forms.OptionalString (n ∷ s) v)
    (λ e. record { octets = counted_is n s e; val = (counted_short n s h.0 e, h.1); written = λ _. refl })
    (λ e. held_generic forms.OptionalString (n ∷ s) h)

held_counted16 : (os : List ℕ) → AreOctets os → Held forms.CountedBase16 os (counted16_in os)
held_counted16 [] h = held_generic forms.CountedBase16 [] h
held_counted16 (n ∷ s) h = cond_both (length s == n) (counted16 s) (generic (n ∷ s)) (λ v. Held forms.CountedBase16 (n ∷ s) v)
    (λ e. record { octets = counted_is n s e; val = (counted_short n s h.0 e, h.1); written = λ _. refl })
    (λ e. held_generic forms.CountedBase16 (n ∷ s) h)

held_counted32 : (os : List ℕ) → AreOctets os → Held forms.CountedBase32 os (counted32_in os)
held_counted32 [] h = held_generic forms.CountedBase32 [] h
held_counted32 (n ∷ s) h = cond_both (length s == n) (counted32 s) (generic (n ∷ s)) (λ v. Held forms.CountedBase32 (n ∷ s) v)
    (λ e. record { octets = counted_is n s e; val = (counted_short n s h.0 e, h.1); written = λ _. refl })
    (λ e. held_generic forms.CountedBase32 (n ∷ s) h)

held_types : (os : List ℕ) (o : Option (List ℕ)) → AreOctets os → types_of_bitmaps os ≡ o → Held forms.Types os (types_or os o)
held_types os None h e = held_generic forms.Types os h
held_types os (Some ts) h e =
    let are = are_bitmaps os ts h e in
    record { octets = are.octets; val = (are.types, subst AreOctets (sym are.octets) h); written = λ _. refl }

held_optional : (os : List ℕ) (o : Option (List ℕ)) → AreOctets os → types_of_bitmaps os ≡ o → Held forms.OptionalTypes os (optional_types_or os o)
held_optional os None h e = held_generic forms.OptionalTypes os h
held_optional os (Some ts) h e =
    let are = are_bitmaps os ts h e in
    record { octets = are.octets; val = (are.types, subst AreOctets (sym are.octets) h); written = λ _. refl }

held_tag : (os : List ℕ) → AreOctets os → Held forms.Tag os (tag_in os)
held_tag [] h = held_generic forms.Tag [] h
held_tag (n ∷ s) h =
    let none = held_generic forms.Tag (n ∷ s) h in
    cond_both (length s == n) (cond (is_tag s) (tag s) (generic (n ∷ s))) (generic (n ∷ s)) (λ v. Held forms.Tag (n ∷ s) v)
    (λ e. cond_both (is_tag s) (tag s) (generic (n ∷ s)) (λ v. Held forms.Tag (n ∷ s) v)
    (λ t. record { octets = counted_is n s e; val = (counted_short n s h.0 e, h.1, t); written = λ _. refl })
    (λ t. none))
    (λ e. none)

held_or : (os : List ℕ) (o : Option (List (List ℕ))) → AreOctets os → strings_in [] [] Between os ≡ o → Held forms.CharStrings os (strings_or os o)
held_or os None h e = held_generic forms.CharStrings os h
held_or os (Some ss) h e =
    record { octets = octets_of os [] [] Between ss refl e; val = all_short os [] [] Between ss h tt tt tt e; written = λ _. refl }

-- what octets hold that are written so
pub held_in : (form : TextForm) (os : List ℕ) → AreOctets os → Held form os (val_in form os)
held_in forms.Number8 os h = held8 os h
held_in forms.Number16 os h = held16 os h
held_in forms.Number32 os h = held32 os h
held_in forms.Ttl os h = held_ttl os h
held_in forms.Time os h = held_time os h
held_in forms.Rtype os h = held_rtype os h
held_in forms.Ipv4 os h = held_ipv4 os h
held_in forms.Ipv6 os h = held_ipv6 os h
held_in forms.Name os h = held_generic forms.Name os h
held_in forms.CharString os h = held_string os h
held_in forms.OptionalString os h = held_optional_string os h
held_in forms.CharStrings os h = held_or os (strings_in [] [] Between os) h refl
held_in forms.Tag os h = held_tag os h
held_in forms.QuotedText os h = record { octets = refl; val = h; written = λ _. refl }
held_in forms.Base16 os h = record { octets = refl; val = h; written = λ _. refl }
held_in forms.Base64 os h = record { octets = refl; val = h; written = λ _. refl }
held_in forms.CountedBase16 os h = held_counted16 os h
held_in forms.CountedBase32 os h = held_counted32 os h
held_in forms.Types os h = held_types os (types_of_bitmaps os) h refl
held_in forms.OptionalTypes os h = held_optional os (types_of_bitmaps os) h refl
held_in forms.Generic os h = held_generic forms.Generic os h

-- ---- names
label_low : {m : List ℕ} {p : ℕ} {l : List ℕ} → AreOctets m → LabelAt m p l → AreOctets l
label_low {m} {p} {l} h at = subst (λ (x : List ℕ). AreOctets x) at.octets (octets_range m (p + 1) (p + 1 + length l) h)

reads_low : {m : List ℕ} {p k : ℕ} {ls : List (List ℕ)} → AreOctets m → Reads m p k ls → AllByRecursion AreOctets ls
reads_low h (root x) = (tt, tt)
reads_low h (label x r) = (label_low h x, reads_low h r)
reads_low h (pointer x lt r) = reads_low h r

before_root : (ls : List (List ℕ)) → AllByRecursion AreOctets (ls ++ Root) → AllByRecursion AreOctets ls
before_root [] h = tt
before_root (l ∷ ls) h = (h.0, before_root ls h.1)

wire_some : (ls : List (List ℕ)) → 1 ≤ length (wire (ls ++ Root))
wire_some [] = omega arith
wire_some (l ∷ ls) = omega arith

no_more : (ls : List (List ℕ)) → ls ++ Root ≡ [] → ⊥
no_more [] e = cc
no_more (l ∷ ls) e = cc

labels_fit : (room : ℕ) (ls : List (List ℕ)) → IsAbsolute (ls ++ Root) → length (wire (ls ++ Root)) ≤ room + 1 → are_labels_in room ls ≡ true
labels_fit room [] a few = refl
labels_fit room ([] ∷ ls) a few = absurd (no_more ls a)
labels_fit room ((c ∷ l) ∷ ls) a few =
    let len = length (c ∷ l) in
    let all = length-append (c ∷ l) (wire (ls ++ Root)) in
    let some : 0 < len = omega arith in
    let less : len < room = omega (arith, few, all, wire_some ls) in
    let rest : length (wire (ls ++ Root)) ≤ room - (1 + len) + 1 = omega (arith, few, all, wire_some ls) in
    cond-true (nat_lt 0 len && nat_le len 63 && nat_lt len room) (are_labels_in (room - (1 + len)) ls) false
    (and_from (nat_lt 0 len && nat_le len 63) (nat_lt len room) (and_from (nat_lt 0 len) (nat_le len 63) (lt-ltb 0 len some) (le-leb len 63 a.0)) (lt-ltb len room less))
    ∙ labels_fit (room - (1 + len)) ls a.1 rest

pub name_val : (m : List ℕ) (p : ℕ) (ls : List (List ℕ)) → AreOctets m → Names 255 m p (ls ++ Root) → IsVal (name ls)
name_val m p ls h n =
    let a = names_absolute n in
    (labels_fit 254 ls a.0 (omega (arith, a.1)), before_root ls (reads_low h n.reads))

-- ---- fields
-- Fields of these kinds can hold these, and are written as their kinds say.
abbrev pub AllHeld : List FieldKind → List Val → Type 0
AllHeld [] [] = Unit {0}
AllHeld [] (v ∷ vs) = ⊥
AllHeld (k ∷ ks) [] = ⊥
AllHeld (k ∷ ks) (v ∷ vs) = IsVal v × IsWritten (text_form k) v × AllHeld ks vs

value_held : (k : FieldKind) (m : List ℕ) (p e : ℕ) (v : Val) → AreOctets m → ValueAt k m p e v → IsVal v × IsWritten (text_form k) v
value_held k m p e v h (inl (ls, is, named, same)) = (
  subst IsVal (sym same) (name_val m p ls h named),
  λ _. ap text_form is ∙ ap form_of_val (sym same),
)
value_held k m p e v h (inr (not, same)) =
    let held = held_in (text_form k) (slice_range m p e) (octets_range m p e h) in
    (subst IsVal (sym same) held.val, subst (λ w. IsWritten (text_form k) w) (sym same) held.written)

-- so those of a message do
pub values_held : (kinds : List FieldKind) (m : List ℕ) (p : ℕ) (vs : List Val) (e : ℕ) → AreOctets m → ValuesAt kinds m p vs e → AllHeld kinds vs
values_held [] m p [] e h at = tt
values_held [] m p (v ∷ vs) e h at = at
values_held (k ∷ kinds) m p [] e h at = at
values_held (k ∷ kinds) m p (v ∷ vs) e h (q, field, value, rest) =
    let one = value_held k m p q v h value in
    (one.0, one.1, values_held kinds m q vs e h rest)

-- ---- octets of values
fitting : (t b : Bool) → cond t b false ≡ true → (t ≡ true) × (b ≡ true)
fitting true b e = (refl, e)
fitting false b e = absurd (false≢true e)

label_short : (x z : Bool) (n : ℕ) → (x && nat_le n 63 && z) ≡ true → n ≤ 63
label_short x z n h = leb-true n 63 (and_parts x (nat_le n 63) (and_parts (x && nat_le n 63) z h).0).1

labels_low : (room : ℕ) (ls : List (List ℕ)) → are_labels_in room ls ≡ true → AllByRecursion AreOctets ls → AreOctets (wire (ls ++ Root))
labels_low room [] f h = (omega arith, tt)
labels_low room (l ∷ ls) f h =
    let len = length l in
    let both = fitting (nat_lt 0 len && nat_le len 63 && nat_lt len room) (are_labels_in (room - (1 + len)) ls) f in
    let short = label_short (nat_lt 0 len) (nat_lt len room) len both.0 in
    (omega (arith, short), octets_append l (wire (ls ++ Root)) h.0 (labels_low (room - (1 + len)) ls both.1 h.1))

strings_low : (ss : List (List ℕ)) → AllByRecursion IsString ss → AreOctets (flat_map counted ss)
strings_low [] h = tt
strings_low (s ∷ ss) h = octets_append (counted s) (flat_map counted ss) (omega (arith, h.0.0), h.0.1) (strings_low ss h.1)

val_low : (v : Val) → IsVal v → AreOctets (val_octets v)
val_low (number8 n) h = (h, tt)
val_low (number16 n) h = (omega (arith, h), (omega arith, tt))
val_low (number32 n) h = (omega (arith, h), (omega arith, (omega arith, (omega arith, tt))))
val_low (ttl n) h = (omega (arith, h), (omega arith, (omega arith, (omega arith, tt))))
val_low (time n) h = (omega (arith, h), (omega arith, (omega arith, (omega arith, tt))))
val_low (rtype n) h = (omega (arith, h), (omega arith, tt))
val_low (ipv4 os) h = h.1
val_low (ipv6 os) h = h.1
val_low (name ls) h = labels_low 254 ls h.0 h.1
val_low (string s) h = (omega (arith, h.0), h.1)
val_low (optional_string None) h = tt
val_low (optional_string (Some s)) h = (omega (arith, h.0), h.1)
val_low (strings ss) h = strings_low ss h
val_low (tag s) h = (omega (arith, h.0), h.1)
val_low (quoted s) h = h
val_low (base16 os) h = h
val_low (base64 os) h = h
val_low (counted16 s) h = (omega (arith, h.0), h.1)
val_low (counted32 s) h = (omega (arith, h.0), h.1)
val_low (types ts) h = h.1
val_low (optional_types ts) h = h.1
val_low (generic os) h = h

pub vals_low : (kinds : List FieldKind) (vs : List Val) → AllHeld kinds vs → AreOctets (vals_octets vs)
vals_low [] [] h = tt
vals_low [] (v ∷ vs) h = absurd h
vals_low (k ∷ kinds) [] h = absurd h
vals_low (k ∷ kinds) (v ∷ vs) h = octets_append (val_octets v) (vals_octets vs) (val_low v h.0) (vals_low kinds vs h.2)
