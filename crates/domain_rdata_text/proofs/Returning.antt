-- What is shown is read back.
use Rattle.std.proofs.Common.{◌≡◌, ◌∙◌, ℕ, ◌-◌, ◌≤◌, Bool, true, false, ◌==◌, cond, nat_le, List, [], ◌∷◌, ◌++◌, length, Option, Some, Result, Ok, Err, refl, sym, ap, subst, append_assoc, append-nil, arith}
use Rattle.std.specs.List.{AllByRecursion, flat_map}
use Rattle.std.specs.Fmt.{decimal}
use Rattle.std.proofs.lemmas.Bool.{false≢true, cond-true, cond-false, eq-eqb, le-leb}
use Rattle.std.proofs.lemmas.Fmt.{decimal_nonempty}
use Rattle.domain_descriptor.specs.declared.kind.FieldKind.{FieldKind}
use Rattle.domain_rdata_text.specs.declared.error.Fault.{Fault}
use Rattle.domain_rdata_text.specs.declared.error.Reason.TheVariants as reasons
use Rattle.domain_rdata_text.specs.declared.form.TextForm.{TextForm}
use Rattle.domain_rdata_text.specs.Hex.{hex_in_words, hex_words, generic_words, counted_octets, read_generic}
use Rattle.domain_rdata_text.specs.Laws.{AreOctets, AreReadBack}
use Rattle.domain_rdata_text.specs.Outcome.{fault}
use Rattle.domain_rdata_text.specs.Texts.{val_words, is_nil, has_text, takes_all, in_fields, data_words, data_text, SoFar, so_far, take_field, read_fields, only_data, fields_octets, starts_mark, split_octets, text_octets_with}
use Rattle.domain_rdata_text.specs.Values.{Val, val_octets, vals_octets, ValuesAt}
use Rattle.domain_rdata_text.specs.Words.{joined}
use Rattle.domain_rdata_text.proofs.Holding.{AllHeld, values_held, vals_low}
use Rattle.domain_rdata_text.proofs.Marking.{first_no_mark}
use Rattle.domain_rdata_text.proofs.Reading.{number_back}
use Rattle.domain_rdata_text.proofs.Splitting.{IsWord, ends_before, placed, words_split, bare_slash, bare_number}
use Rattle.domain_rdata_text.proofs.Taking.{are_words, hex_are_words, hex_all_back, taken_back}

-- ---- data in fields
-- what is known of a field of data that is written field by field
pub record First (v : Val) (vs : List Val) : Type 0 where
  pub text : has_text v ≡ true
  pub last : takes_all v ≡ true → vs ≡ []
  pub others : in_fields vs ≡ true

first_of : (p q : Bool) (vs : List Val) → cond p (cond q (is_nil vs) (in_fields vs)) false ≡ true → (p ≡ true) × (q ≡ true → vs ≡ []) × (in_fields vs ≡ true)
first_of true true [] h = (refl, (λ _. refl), refl)
first_of true true (v ∷ vs) h = absurd (false≢true h)
first_of true false vs h = (refl, (λ e. absurd (false≢true e)), h)
first_of false q vs h = absurd (false≢true h)

first : (v : Val) (vs : List Val) → in_fields (v ∷ vs) ≡ true → First v vs
first v vs h = let it = first_of (has_text v) (takes_all v) vs h in record { text = it.0; last = it.1; others = it.2 }

all_words : (us vs : List (List ℕ)) → AllByRecursion IsWord us → AllByRecursion IsWord vs → AllByRecursion IsWord (us ++ vs)
all_words [] vs a b = b
all_words (u ∷ us) vs a b = (a.0, all_words us vs a.1 b)

fields_words : (kinds : List FieldKind) (vs : List Val) → AllHeld kinds vs → AllByRecursion IsWord (flat_map val_words vs)
fields_words [] [] h = tt
fields_words [] (v ∷ vs) h = absurd h
fields_words (k ∷ kinds) [] h = absurd h
fields_words (k ∷ kinds) (v ∷ vs) h = all_words (val_words v) (flat_map val_words vs) (are_words v h.0) (fields_words kinds vs h.2)

fields_back : (origin : Option (List ℕ)) (n len : ℕ) (kinds : List FieldKind) (vs : List Val) → AllHeld kinds vs → in_fields vs ≡ true → (os : List ℕ)
    → read_fields origin len (Ok (so_far os (placed n (flat_map val_words vs)))) kinds ≡ Ok (os ++ vals_octets vs)
fields_back origin n len [] [] h f os = ap Ok (sym (append-nil os))
fields_back origin n len [] (v ∷ vs) h f os = absurd h
fields_back origin n len (k ∷ kinds) [] h f os = absurd h
fields_back origin n len (k ∷ kinds) (v ∷ vs) h f os =
    let it = first v vs f in
    let us = flat_map val_words vs in
    let ws = placed n (val_words v ++ us) in
    ap (λ (x : TextForm). read_fields origin len (take_field origin len x os ws) kinds) (h.1 it.text)
    ∙ (ap (λ (x : Result SoFar Fault). read_fields origin len x kinds) (taken_back origin n len v us h.0 it.text (λ e. ap (λ (x : List Val). flat_map val_words x) (it.last e)) os)
    ∙ (fields_back origin n len kinds vs h.2 it.others (os ++ val_octets v) ∙ ap Ok (append_assoc os (val_octets v) (vals_octets vs))))

fields_no_mark : (n : ℕ) (kinds : List FieldKind) (vs : List Val) → AllHeld kinds vs → in_fields vs ≡ true → starts_mark (placed n (flat_map val_words vs)) ≡ false
fields_no_mark n kinds [] h f = refl
fields_no_mark n [] (v ∷ vs) h f = absurd h
fields_no_mark n (k ∷ kinds) (v ∷ vs) h f =
    let it = first v vs f in
    first_no_mark n v (flat_map val_words vs) h.0 it.text (λ e. ap (λ (x : List Val). flat_map val_words x) (it.last e))

short_back : (len : ℕ) (os : List ℕ) → length os ≤ 65535 → only_data len (Ok os) ≡ Ok os
short_back len os h = cond-true (nat_le (length os) 65535) (Ok os) (Err (fault len reasons.LongData)) (le-leb (length os) 65535 h)

in_fields_back : (origin : Option (List ℕ)) (kinds : List FieldKind) (vs : List Val) → AllHeld kinds vs → in_fields vs ≡ true → length (vals_octets vs) ≤ 65535
    → text_octets_with origin kinds (joined (flat_map val_words vs)) ≡ Ok (vals_octets vs)
in_fields_back origin kinds vs h f short =
    let us = flat_map val_words vs in
    let n = length (joined us) in
    let ws = placed n us in
    ap (split_octets origin kinds n) (words_split us (fields_words kinds vs h))
    ∙ (cond-false (starts_mark ws) (read_generic n ws) (fields_octets origin kinds n ws) (fields_no_mark n kinds vs h f)
    ∙ (ap (only_data n) (fields_back origin n n kinds vs h f []) ∙ short_back n (vals_octets vs) short))

-- ---- data of any type
generic_are_words : (os : List ℕ) → AreOctets os → length os ≤ 65535 → AllByRecursion IsWord (generic_words os)
generic_are_words os b h =
    ((bare_slash 35 refl, omega arith), ((bare_number (length os) (omega (arith, h)), decimal_nonempty (length os) (omega (arith, h))), hex_are_words os b))

generic_back : (origin : Option (List ℕ)) (kinds : List FieldKind) (os : List ℕ) → AreOctets os → length os ≤ 65535 → text_octets_with origin kinds (joined (generic_words os)) ≡ Ok os
generic_back origin kinds os b h =
    let n = length (joined (generic_words os)) in
    let count = decimal (length os) in
    let ws = placed n (hex_in_words os) in
    let at = ends_before n (hex_in_words os) - length count in
    ap (split_octets origin kinds n) (words_split (generic_words os) (generic_are_words os b h))
    ∙ (ap (λ (x : Option ℕ). counted_octets at x (hex_words (Ok []) ws)) (number_back 65536 (length os) (omega (arith, h)) (omega (arith, h)))
    ∙ (ap (counted_octets at (Some (length os))) (hex_all_back n os b)
    ∙ cond-true (length os == length os) (Ok os) (Err (fault at reasons.OctetCount)) (eq-eqb (length os) (length os) refl)))

-- ---- both
back_if : (origin : Option (List ℕ)) (f : Bool) (kinds : List FieldKind) (vs : List Val) → in_fields vs ≡ f → AllHeld kinds vs → length (vals_octets vs) ≤ 65535
    → text_octets_with origin kinds (data_text vs) ≡ Ok (vals_octets vs)
back_if origin true kinds vs f h short =
    ap (λ (us : List (List ℕ)). text_octets_with origin kinds (joined us)) (cond-true (in_fields vs) (flat_map val_words vs) (generic_words (vals_octets vs)) f)
    ∙ in_fields_back origin kinds vs h f short
back_if origin false kinds vs f h short =
    ap (λ (us : List (List ℕ)). text_octets_with origin kinds (joined us)) (cond-false (in_fields vs) (flat_map val_words vs) (generic_words (vals_octets vs)) f)
    ∙ generic_back origin kinds (vals_octets vs) (vals_low kinds vs h) short

pub all_back : (kinds : List FieldKind) (m : List ℕ) (p : ℕ) (vs : List Val) (e : ℕ) → AreReadBack kinds m p vs e
all_back kinds m p vs e low at short origin = back_if origin (in_fields vs) kinds vs refl (values_held kinds m p vs e low at) short

words_if : (f : Bool) (kinds : List FieldKind) (vs : List Val) → in_fields vs ≡ f → AllHeld kinds vs → length (vals_octets vs) ≤ 65535 → AllByRecursion IsWord (data_words vs)
words_if true kinds vs f h short =
    subst (AllByRecursion IsWord) (sym (cond-true (in_fields vs) (flat_map val_words vs) (generic_words (vals_octets vs)) f)) (fields_words kinds vs h)
words_if false kinds vs f h short =
    subst (AllByRecursion IsWord) (sym (cond-false (in_fields vs) (flat_map val_words vs) (generic_words (vals_octets vs)) f))
    (generic_are_words (vals_octets vs) (vals_low kinds vs h) short)

-- What the fields of data hold is written in words.
pub data_are_words : (kinds : List FieldKind) (m : List ℕ) (p : ℕ) (vs : List Val) (e : ℕ) → AreOctets m → ValuesAt kinds m p vs e → length (vals_octets vs) ≤ 65535 → AllByRecursion IsWord (data_words vs)
data_are_words kinds m p vs e low at short = words_if (in_fields vs) kinds vs refl (values_held kinds m p vs e low at) short
