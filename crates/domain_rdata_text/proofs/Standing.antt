-- The octets of what fields hold are data with these fields.
use Rattle.std.proofs.Common.{◌≡◌, ◌∙◌, ℕ, ◌+◌, ◌-◌, ◌≤◌, List, [], ◌∷◌, ◌++◌, length, take, drop, slice_range, refl, sym, subst, ap, inl, inr, append_assoc, append-nil, length-append, length-drop, arith}
use Rattle.std.proofs.lemmas.List.{length-take-le, take-append-drop}
use Rattle.std.proofs.lemmas.List.Folds.{drop_split}
use Rattle.domain_label.specs.Wire.{wire, Root}
use Rattle.domain_reading.proofs.Encodings.{stop_whole}
use Rattle.domain_reading.proofs.Reading.{names_absolute, names_within}
use Rattle.domain_reading.proofs.Touching.{reads_inside}
use Rattle.domain_reading.proofs.UncompressedIsRead.{plain_names, plain_front}
use Rattle.domain_reading.specs.Grammar.{Names, EncodingEnds}
use Rattle.domain_reading.specs.Grammar.Stop.{root as stop_root}
use Rattle.domain_descriptor.proofs.Whole.{field_inside}
use Rattle.domain_descriptor.specs.declared.form.FieldForm.{FieldForm}
use Rattle.domain_descriptor.specs.declared.form.FieldForm.TheVariants as reading
use Rattle.domain_descriptor.specs.declared.kind.FieldKind.{FieldKind}
use Rattle.domain_descriptor.specs.declared.kind.FieldKind.TheVariants as kinds
use Rattle.domain_descriptor.specs.Fields.{FormAt, FieldAt, FieldsAt}
use Rattle.domain_descriptor.specs.Forms.{form}
use Rattle.domain_rdata_text.specs.Forms.{text_form}
use Rattle.domain_rdata_text.specs.Laws.{AreOctets}
use Rattle.domain_rdata_text.specs.Texts.{IsPlain}
use Rattle.domain_rdata_text.specs.Values.{Val, val_octets, vals_octets, val_in, ValueAt, ValuesAt}
use Rattle.domain_rdata_text.specs.Values.Val.{name}
use Rattle.domain_rdata_text.proofs.Holding.{held_in}
use Rattle.domain_rdata_text.proofs.Moving.{moved, form_moved}
use Rattle.domain_rdata_text.proofs.Octets.{octets_range}

-- ---- fields end inside of the octets
optional_whole : (m : List ℕ) (p e : ℕ) → FormAt reading.OptionalCounted m p e → e ≤ length m
optional_whole m p e (inl a) = omega (arith, a.0, a.1)
optional_whole m p e (inr a) = a.2

form_whole : (it : FieldForm) (m : List ℕ) (p e : ℕ) → FormAt it m p e → e ≤ length m
form_whole (reading.Fixed n) m p e a = a.1
form_whole reading.Name m p e a = stop_whole m a.1.2.stop e a.1.1 a.1.2.ends
form_whole reading.Counted m p e a = a.2
form_whole reading.OptionalCounted m p e a = optional_whole m p e a
form_whole reading.SomeCounted m p e a = a.0.2
form_whole reading.Strings m p e a = omega (arith, a.0)
form_whole reading.Tag m p e a = a.0.2
form_whole reading.LongCounted m p e a = a.2
form_whole reading.Blocks m p e a = omega (arith, a.0)
form_whole reading.OptionalBlocks m p e a = omega (arith, a.0)
form_whole reading.Params m p e a = omega (arith, a.0)
form_whole reading.Rest m p e a = omega (arith, a.0)

field_whole : (k : FieldKind) (m : List ℕ) (p e : ℕ) → FieldAt k m p e → e ≤ length m
field_whole k m p e a = form_whole (form k) m p e a

-- only a name is read so
name_alone : (k : FieldKind) → (k ≡ kinds.Name → ⊥) → form k ≡ reading.Name → ⊥
name_alone kinds.Number8 other e = cc
name_alone kinds.Number16 other e = cc
name_alone kinds.Number32 other e = cc
name_alone kinds.Number48 other e = cc
name_alone kinds.Number64 other e = cc
name_alone kinds.Ttl other e = cc
name_alone kinds.Serial other e = cc
name_alone kinds.Time other e = cc
name_alone kinds.Rtype other e = cc
name_alone kinds.Ipv4 other e = cc
name_alone kinds.Ipv6 other e = cc
name_alone kinds.Name other e = other refl
name_alone kinds.CharString other e = cc
name_alone kinds.OptionalString other e = cc
name_alone kinds.CharStrings other e = cc
name_alone kinds.Tag other e = cc
name_alone kinds.QuotedText other e = cc
name_alone kinds.CountedBase16 other e = cc
name_alone kinds.CountedBase32 other e = cc
name_alone kinds.CountedBase64 other e = cc
name_alone kinds.TypeBitmaps other e = cc
name_alone kinds.OptionalTypeBitmaps other e = cc
name_alone kinds.SvcParams other e = cc
name_alone kinds.Base16 other e = cc
name_alone kinds.Base64 other e = cc
name_alone kinds.Octets other e = cc

-- ---- nothing is after the end
empty_range : (m : List ℕ) (p q : ℕ) → q ≤ p → slice_range m p q ≡ []
empty_range m p q less = let none : q - p ≡ 0 = omega (arith, less) in ap (λ (n : ℕ). take n (drop p m)) none

value_octets : (k : FieldKind) (m : List ℕ) (p e : ℕ) (v : Val) → AreOctets m → v ≡ val_in (text_form k) (slice_range m p e) → val_octets v ≡ slice_range m p e
value_octets k m p e v low same = ap val_octets same ∙ (held_in (text_form k) (slice_range m p e) (octets_range m p e low)).octets

value_at_end : (k : FieldKind) (m : List ℕ) (p e : ℕ) (v : Val) → AreOctets m → p ≡ length m → e ≤ p → ValueAt k m p e v → val_octets v ≡ []
value_at_end k m p e v low end less (inl (ls, is, named, same)) = absurd (omega (arith, end, reads_inside named.reads))
value_at_end k m p e v low end less (inr (not, same)) = value_octets k m p e v low same ∙ empty_range m p e less

nothing_left : (kinds : List FieldKind) (m : List ℕ) (p : ℕ) (vs : List Val) (e : ℕ) → AreOctets m → p ≡ length m → ValuesAt kinds m p vs e → vals_octets vs ≡ []
nothing_left [] m p [] e low end at = refl
nothing_left [] m p (v ∷ vs) e low end at = absurd at
nothing_left (k ∷ kinds) m p [] e low end at = absurd at
nothing_left (k ∷ kinds) m p (v ∷ vs) e low end (q, field, value, rest) =
    let after = field_inside k m p q (omega (arith, end)) field in
    let inside = field_whole k m p q field in
    let here : q ≡ length m = omega (arith, end, after, inside) in
    ap (λ (x : List ℕ). x ++ vals_octets vs) (value_at_end k m p q v low end (omega (arith, end, inside)) value)
    ∙ nothing_left kinds m q vs e low here rest

-- ---- one field
-- It is after other octets and before others.
abbrev Stands : FieldKind → List ℕ → Val → List ℕ → Type 0
Stands k t v u =
    FieldAt k (t ++ (val_octets v ++ u)) (length t) (length (t ++ val_octets v))
    × ValueAt k (t ++ (val_octets v ++ u)) (length t) (length (t ++ val_octets v)) v

name_stands : (t : List ℕ) (ls : List (List ℕ)) (u m : List ℕ) (p : ℕ) → Names 255 m p (ls ++ Root) → Stands kinds.Name t (name ls) u
name_stands t ls u m p named =
    let all = ls ++ Root in
    let o = wire all in
    let a = names_absolute named in
    let w = append_assoc t o u in
    let there = subst (λ x. Names 255 x (length t) all) w (names_within 255 (plain_names t u all a) (omega arith)) in
    let front = plain_front t u all a in
    let ends = subst (λ x. EncodingEnds x (length t) (length t + length o)) w (front.0, stop_root, front.1) in
    (((all, there), subst (λ e. EncodingEnds (t ++ (o ++ u)) (length t) e) (sym (length-append t o)) ends), inl (ls, refl, there, refl))

split_at : (m : List ℕ) (p q : ℕ) → p ≤ q → m ≡ take p m ++ (slice_range m p q ++ drop q m)
split_at m p q ordered = sym (take-append-drop p m) ∙ ap (λ (x : List ℕ). take p m ++ x) (drop_split m p q ordered)

range_length : (m : List ℕ) (p q : ℕ) → p ≤ q → q ≤ length m → length (slice_range m p q) ≡ q - p
range_length m p q ordered inside = length-take-le (q - p) (drop p m) (omega (arith, length-drop p m, ordered, inside))

drop_some : (m : List ℕ) (q : ℕ) → drop q m ≡ [] → length m ≤ q
drop_some m q none = omega (arith, length-drop q m, ap (λ (x : List ℕ). length x) none)

other_stands : (k : FieldKind) (m : List ℕ) (p q : ℕ) (v : Val) (t u : List ℕ) → AreOctets m → p ≤ length m → FieldAt k m p q → (k ≡ kinds.Name → ⊥)
    → v ≡ val_in (text_form k) (slice_range m p q) → (q ≡ length m → u ≡ []) → Stands k t v u
other_stands k m p q v t u low begins field other same last_too =
    let s = slice_range m p q in
    let o = val_octets v in
    let is : o ≡ s = value_octets k m p q v low same in
    let ordered = field_inside k m p q begins field in
    let inside = field_whole k m p q field in
    let w = t ++ (o ++ u) in
    let n = q - p in
    let size = range_length m p q ordered inside in
    let ends : length (t ++ o) ≡ length t + n = omega (arith, length-append t o, ap (λ (x : List ℕ). length x) is, size) in
    let it = moved m w p (length t) n (take p m) s (drop q m) t u (split_at m p q ordered) (ap (λ (x : List ℕ). t ++ (x ++ u)) is)
    (length-take-le p m begins) refl size (λ none. last_too (omega (arith, inside, drop_some m q none))) in
    let same_octets = it.range 0 n p q (length t) (length (t ++ o)) (omega arith) (omega arith) (omega arith) (omega (arith, ordered)) (omega arith) ends in (
      form_moved (form k) m p w (length t) n q (length (t ++ o)) it (omega (arith, ordered)) ends (name_alone k other) field,
      inr (other, same ∙ ap (λ (x : List ℕ). val_in (text_form k) x) same_octets),
    )

one_stands : (k : FieldKind) (m : List ℕ) (p q : ℕ) (v : Val) (t u : List ℕ) → AreOctets m → p ≤ length m → FieldAt k m p q → ValueAt k m p q v → (q ≡ length m → u ≡ []) → Stands k t v u
one_stands k m p q v t u low begins field (inl (ls, is, named, same)) last_too =
    subst (λ x. Stands x t v u) (sym is) (subst (λ x. Stands kinds.Name t x u) (sym same) (name_stands t ls u m p named))
one_stands k m p q v t u low begins field (inr (other, same)) last_too = other_stands k m p q v t u low begins field other same last_too

-- ---- all of them
stands : (ks : List FieldKind) (m : List ℕ) (p : ℕ) (vs : List Val) (e : ℕ) → AreOctets m → p ≤ length m → ValuesAt ks m p vs e → (t : List ℕ)
    → ValuesAt ks (t ++ vals_octets vs) (length t) vs (length (t ++ vals_octets vs))
stands [] m p [] e low begins at t = ap (λ (x : List ℕ). length x) (append-nil t)
stands [] m p (v ∷ vs) e low begins at t = absurd at
stands (k ∷ ks) m p [] e low begins at t = absurd at
stands (k ∷ ks) m p (v ∷ vs) e low begins (q, field, value, rest) t =
    let o = val_octets v in
    let u = vals_octets vs in
    let one = one_stands k m p q v t u low begins field value (λ end. nothing_left ks m q vs e low end rest) in
    let others = stands ks m q vs e low (field_whole k m p q field) rest (t ++ o) in
    (length (t ++ o), one.0, one.1, subst (λ x. ValuesAt ks x (length (t ++ o)) vs (length x)) (append_assoc t o u) others)

fields_of_values : (ks : List FieldKind) (m : List ℕ) (p : ℕ) (vs : List Val) (e : ℕ) → ValuesAt ks m p vs e → FieldsAt ks m p e
fields_of_values [] m p [] e at = at
fields_of_values [] m p (v ∷ vs) e at = absurd at
fields_of_values (k ∷ ks) m p [] e at = absurd at
fields_of_values (k ∷ ks) m p (v ∷ vs) e (q, field, value, rest) = (q, field, fields_of_values ks m q vs e rest)

-- so they are data whose names aren't compressed
pub are_plain : (ks : List FieldKind) (m : List ℕ) (p : ℕ) (vs : List Val) (e : ℕ) → AreOctets m → p ≤ length m → ValuesAt ks m p vs e → IsPlain ks (vals_octets vs)
are_plain ks m p vs e low begins at =
    let os = vals_octets vs in
    let there = stands ks m p vs e low begins at [] in
    (fields_of_values ks os 0 vs (length os) there, (vs, length os, there, refl))
