-- Types of records that are shown are read back.
use Rattle.std.proofs.Common.{◌≡◌, ◌∙◌, ℕ, ◌<◌, Bool, true, false, ◌==◌, ◌&&◌, ◌||◌, List, [], ◌∷◌, ◌++◌, length, codes, Option, Some, None, ◌↔◌, refl, subst, ap, arith}
use Rattle.std.specs.Prelude.{unwrap_or, IsTrue}
use Rattle.std.specs.Cmp.Lexicographic.{pointwise}
use Rattle.std.specs.Fmt.{decimal}
use Rattle.std.specs.List.{list_all}
use Rattle.std.proofs.lemmas.Bool.{false≢true, and_from, and_parts, or_parts, not-true, eq-eqb, eqb-true}
use Rattle.domain_header.specs.Mnemonics.{Row, word_of}
use Rattle.domain_header.specs.Rtypes.{rtype_rows}
use Rattle.domain_label.specs.Lowercase.{lowercase, eq_ignoring_case}
use Rattle.domain_rdata_text.specs.declared.words.Mode.TheVariants.{Bare}
use Rattle.domain_rdata_text.specs.Rtypes.{type_text, number_of_word, or_after_type, read_type}
use Rattle.domain_rdata_text.specs.Numbers.{read_number}
use Rattle.domain_rdata_text.specs.Words.{is_blank}
use Rattle.domain_rdata_text.proofs.Octets.{same_when}
use Rattle.domain_rdata_text.proofs.Reading.{number_back}
use Rattle.domain_rdata_text.proofs.Strung.{none_some, same_some, cond_some}
use Rattle.domain_rdata_text.proofs.Splitting.{Stays, stays_nil, stays_append, bare_one, bare_number}
use Rattle.domain_rdata_text.proofs.Tables.{is_bare}

-- ---- two words
same_self : (xs : List ℕ) → pointwise ◌==◌ xs xs ≡ true
same_self [] = refl
same_self (x ∷ xs) = and_from (x == x) (pointwise ◌==◌ xs xs) (eq-eqb x x refl) (same_self xs)

same_either : (r s : Bool) → (r ≡ true → s ≡ true) → (s ≡ true → r ≡ true) → r ≡ s
same_either true true f g = refl
same_either true false f g = absurd (false≢true (f refl))
same_either false true f g = absurd (false≢true (g refl))
same_either false false f g = refl

pub same_test : (r : Bool) (a b : List ℕ) → (IsTrue r ↔ (lowercase a ≡ lowercase b)) → r ≡ eq_ignoring_case a b
same_test r a b test = same_either r (eq_ignoring_case a b)
    (λ e. subst (λ x. pointwise ◌==◌ (lowercase a) x ≡ true) (test.0 e) (same_self (lowercase a)))
    (λ e. test.1 (same_when (lowercase a) (lowercase b) e))

-- ---- the table
abbrev is_number : Option ℕ → ℕ → Bool
is_number None n = false
is_number (Some m) n = m == n

-- a row's word is of its number, in one word, and has no backslash
abbrev begins_plain : List ℕ → Bool
begins_plain [] = false
begins_plain (c ∷ w) = is_bare c

abbrev is_good : Row → Bool
is_good row = is_number (number_of_word rtype_rows row.word) row.number && (list_all is_bare row.word && begins_plain row.word)

all_good : list_all is_good rtype_rows ≡ true
all_good = refl

number_is : (o : Option ℕ) (n : ℕ) → is_number o n ≡ true → o ≡ Some n
number_is None n h = absurd (false≢true h)
number_is (Some m) n h = ap Some (eqb-true m n h)

-- what is known of the mnemonic of a type
record Good (n : ℕ) (w : List ℕ) : Type 0 where
  back : number_of_word rtype_rows w ≡ Some n
  bare : list_all is_bare w ≡ true
  begins : begins_plain w ≡ true

good_row : (row : Row) → is_good row ≡ true → Good row.number row.word
good_row row h =
    let p = and_parts (is_number (number_of_word rtype_rows row.word) row.number) (list_all is_bare row.word && begins_plain row.word) h in
    let q = and_parts (list_all is_bare row.word) (begins_plain row.word) p.1 in
    record { back = number_is (number_of_word rtype_rows row.word) row.number p.0; bare = q.0; begins = q.1 }

row_found : (rows : List Row) (n : ℕ) (w : List ℕ) → list_all is_good rows ≡ true → word_of rows n ≡ Some w → Good n w
row_found [] n w h e = absurd (none_some w e)
row_found (row ∷ rows) n w h e =
    let p = and_parts (is_good row) (list_all is_good rows) h in
    cond_some (row.number == n) (Some row.word) (word_of rows n) w (Good n w)
    (λ same is. subst (λ (m : ℕ). Good m w) (eqb-true row.number n same) (subst (λ (v : List ℕ). Good row.number v) (same_some row.word w is) (good_row row p.0)))
    (λ other rest. row_found rows n w p.1 rest)
    e

-- ---- the text of a type
type_of_word : (P : List ℕ → Type 0) (n : ℕ) (u : List ℕ) (o : Option (List ℕ)) → word_of rtype_rows n ≡ o → ((w : List ℕ) → Good n w → P w) → P u → P (unwrap_or o u)
type_of_word P n u None e f g = g
type_of_word P n u (Some w) e f g = f w (row_found rtype_rows n w all_good e)

-- what holds of each mnemonic, and of `TYPE` and the number, holds of the text
type_by : (P : List ℕ → Type 0) (n : ℕ) → ((w : List ℕ) → Good n w → P w) → P (codes "TYPE" ++ decimal n) → P (type_text n)
unfolding type_text
type_by P n f g = type_of_word P n (codes "TYPE" ++ decimal n) (word_of rtype_rows n) refl f g

word_reads : (n : ℕ) (w : List ℕ) → Good n w → read_type w ≡ Some n
unfolding read_type
word_reads n w good = ap (λ (o : Option ℕ). or_after_type o w) good.back

type_reads : (ds : List ℕ) → read_type (84 ∷ 89 ∷ 80 ∷ 69 ∷ ds) ≡ read_number 65536 ds
unfolding read_type
type_reads ds = refl

pub type_back : (n : ℕ) → n < 65536 → read_type (type_text n) ≡ Some n
type_back n h = type_by (λ t. read_type t ≡ Some n) n (word_reads n) (type_reads (decimal n) ∙ number_back 65536 n h (omega (arith, h)))

-- ---- it is a word, and no mark
pub all_bare : (w : List ℕ) → list_all is_bare w ≡ true → Stays Bare w
all_bare [] h = stays_nil Bare
all_bare (c ∷ w) h =
    let p = and_parts (is_bare c) (list_all is_bare w) h in
    stays_append Bare (c ∷ []) w (bare_one c p.0) (all_bare w p.1)

pub bare_type : (n : ℕ) → n < 65536 → Stays Bare (type_text n)
bare_type n h = type_by (Stays Bare) n (λ w good. all_bare w good.bare)
    (stays_append Bare (codes "TYPE") (decimal n) (all_bare (codes "TYPE") refl) (bare_number n (omega (arith, h))))

-- it begins with a letter or an asterisk
abbrev pub BeginsType : List ℕ → Type 0
BeginsType u = (c : ℕ) × (v : List ℕ) × (u ≡ c ∷ v) × ((c == 92) ≡ false)

bare_plain : (c : ℕ) → is_bare c ≡ true → (c == 92) ≡ false
bare_plain c h =
    let p0 = or_parts (is_blank c) (c == 59 || ((c == 40 || c == 41) || (c == 34 || c == 92))) (not-true (is_blank c || (c == 59 || ((c == 40 || c == 41) || (c == 34 || c == 92)))) h) in
    let p1 = or_parts (c == 59) ((c == 40 || c == 41) || (c == 34 || c == 92)) p0.1 in
    let p2 = or_parts (c == 40 || c == 41) (c == 34 || c == 92) p1.1 in
    (or_parts (c == 34) (c == 92) p2.1).1

word_begins : (w : List ℕ) → begins_plain w ≡ true → BeginsType w
word_begins [] h = absurd (false≢true h)
word_begins (c ∷ w) h = (c, w, refl, bare_plain c h)

pub type_begins : (n : ℕ) → BeginsType (type_text n)
type_begins n = type_by BeginsType n (λ w good. word_begins w good.begins) (84, 89 ∷ 80 ∷ 69 ∷ decimal n, refl, refl)

pub type_some : (n : ℕ) → 0 < length (type_text n)
type_some n =
    let b = type_begins n in
    omega (arith, ap (λ (x : List ℕ). length x) b.2)
