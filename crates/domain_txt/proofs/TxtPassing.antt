-- Strings, one after the other from the front.
use Rattle.std.proofs.Common.{◌≡◌, ℕ, ◌-◌, ◌<◌, ◌≤◌, List, [], ◌∷◌, ◌++◌, length, take, drop, refl, arith, ap, subst, sym, ◌∙◌, append_assoc, append-nil, get_or, length-take, take-append-drop}
use Rattle.std.proofs.lemmas.List.{length-take-le, take_all}
use Rattle.std.proofs.Math.Seq.{drop-append_seam}
use Rattle.domain_txt.specs.Cutting.{strings_written}
use Rattle.domain_txt.specs.Strings.{AreStrings, string_octets, cut_strings, strings_in, HasStrings, StringsBefore, HasFirstString}

-- strings that are all of the octets
pub all_strings : (o : List ℕ) (ss : List (List ℕ)) → o ≡ string_octets ss → AreStrings ss → HasStrings o
all_strings o ss e are =
    let same : strings_in o ≡ ss = ap strings_in e ∙ strings_written ss in
    (ap string_octets same ∙ sym e, subst AreStrings (sym same) are)

octets_append : (xs ys : List (List ℕ)) → string_octets (xs ++ ys) ≡ string_octets xs ++ string_octets ys
octets_append [] ys = refl
octets_append (x ∷ xs) ys = ap (λ r. length x ∷ r) (ap (λ r. x ++ r) (octets_append xs ys) ∙ sym (append_assoc x (string_octets xs) (string_octets ys)))

strings_append : (xs ys : List (List ℕ)) → AreStrings xs → AreStrings ys → AreStrings (xs ++ ys)
strings_append [] ys a b = b
strings_append (x ∷ xs) ys a b = (a.0, strings_append xs ys a.1 b)

-- one string more from the front
pub passed_string : (o : List ℕ) (ss : List (List ℕ)) (len : ℕ) (rest : List ℕ) → StringsBefore o ss (len ∷ rest) → len ≤ length rest → len ≤ 255 → StringsBefore o (ss ++ take len rest ∷ []) (drop len rest)
passed_string o ss len rest before there short =
    let size : length (take len rest) ≡ len = length-take-le len rest there in
    let one : string_octets (take len rest ∷ []) ++ drop len rest ≡ len ∷ rest = rw (size, append-nil (take len rest), take-append-drop len rest) refl in
    record {
      strings = strings_append ss (take len rest ∷ []) before.strings (omega arith, tt);
      parts = before.parts ∙ (ap (λ r. string_octets ss ++ r) (sym one) ∙ (sym (append_assoc (string_octets ss) (string_octets (take len rest ∷ [])) (drop len rest)) ∙ ap (λ r. r ++ drop len rest) (sym (octets_append ss (take len rest ∷ [])))));
    }

-- where nothing is left, the octets are strings
pub passed_all : (o : List ℕ) (ss : List (List ℕ)) → StringsBefore o ss [] → HasStrings o
passed_all o ss before = all_strings o ss (before.parts ∙ append-nil (string_octets ss)) before.strings

pub nothing_passed : (o : List ℕ) → StringsBefore o [] o
nothing_passed o = record { strings = tt; parts = refl }

-- the first string
pub first_string : (len : ℕ) (o : List ℕ) → HasStrings (len ∷ o) → HasFirstString (len ∷ o) (take len o) (drop len o) × (len ≤ length o)
first_string len o has =
    let after = cut_strings (length o) (drop len o) in
    let whole : length (take len o) ∷ (take len o ++ string_octets after) ≡ len ∷ o = has.0 in
    let size : length (take len o) ≡ len = cc in
    let tail : take len o ++ string_octets after ≡ o = cc in
    let drops : drop (length (take len o)) (take len o ++ string_octets after) ≡ string_octets after = drop-append_seam (take len o) (string_octets after) in
    let rest : drop len o ≡ string_octets after = sym (ap (drop len) tail) ∙ (ap (λ n. drop n (take len o ++ string_octets after)) (sym size) ∙ drops) in
    let there : strings_in (drop len o) ≡ after = ap strings_in rest ∙ strings_written after in (
      record {
        string = has.1.0;
        rest = all_strings (drop len o) after rest has.1.1;
        parts = ap (λ r. take len o ∷ r) (sym there);
      },
      omega (arith, size, length-take len o),
    )

-- octets with one at the front, as a pattern takes them apart
head_and_tail : (o : List ℕ) (n : ℕ) → 1 ≤ length o → n ≡ length o - 1 → o ≡ get_or o 0 0 ∷ take n (drop 1 o)
head_and_tail [] n some e = absurd (omega (arith, some))
head_and_tail (c ∷ o) n some e = ap (λ r. c ∷ r) (sym (take_all n o (omega (arith, e))))

-- the string that stands next
pub passed_next : (o rest after : List ℕ) (n len : ℕ) → (ss : List (List ℕ)) × StringsBefore o ss rest → 1 ≤ length rest → n ≡ length rest - 1 → len ≡ get_or rest 0 0 → len ≤ length (take n (drop 1 rest)) → len ≤ 255 → after ≡ drop len (take n (drop 1 rest)) → (ss : List (List ℕ)) × StringsBefore o ss after
passed_next o rest after n len before some e head there short is =
    let parts : rest ≡ len ∷ take n (drop 1 rest) = head_and_tail rest n some e ∙ ap (λ k. k ∷ take n (drop 1 rest)) (sym head) in
    let next = passed_string o before.0 len (take n (drop 1 rest)) (subst (λ r. StringsBefore o before.0 r) parts before.1) there short in
    (before.0 ++ take len (take n (drop 1 rest)) ∷ [], subst (λ r. StringsBefore o (before.0 ++ take len (take n (drop 1 rest)) ∷ []) r) (sym is) next)

pub passed_end : (o rest : List ℕ) → (ss : List (List ℕ)) × StringsBefore o ss rest → length rest < 1 → HasStrings o
passed_end o [] before none = passed_all o before.0 before.1
passed_end o (c ∷ rest) before none = absurd (omega (arith, none))

-- the first string, as a pattern takes it off
pub first_parts : (o s r : List ℕ) (n len : ℕ) → HasStrings o → 1 ≤ length o → n ≡ length o - 1 → len ≡ get_or o 0 0 → s ≡ take len (take n (drop 1 o)) → r ≡ drop len (take n (drop 1 o)) → HasFirstString o s r
first_parts o s r n len has some e head front back =
    let parts : o ≡ len ∷ take n (drop 1 o) = head_and_tail o n some e ∙ ap (λ k. k ∷ take n (drop 1 o)) (sym head) in
    let first = first_string len (take n (drop 1 o)) (subst (λ x. HasStrings x) parts has) in
    let here : HasFirstString o (take len (take n (drop 1 o))) (drop len (take n (drop 1 o))) = subst (λ x. HasFirstString x (take len (take n (drop 1 o))) (drop len (take n (drop 1 o)))) (sym parts) first.0 in
    rw (front, back) here

pub first_fits : (o : List ℕ) (n len : ℕ) → HasStrings o → 1 ≤ length o → n ≡ length o - 1 → len ≡ get_or o 0 0 → len ≤ length (take n (drop 1 o))
first_fits o n len has some e head =
    let parts : o ≡ len ∷ take n (drop 1 o) = head_and_tail o n some e ∙ ap (λ k. k ∷ take n (drop 1 o)) (sym head) in
    (first_string len (take n (drop 1 o)) (subst (λ x. HasStrings x) parts has)).1
