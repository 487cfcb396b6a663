-- The lines of an OPT record, part by part.
use Rattle.std.proofs.Common.{◌≡◌, ℕ, zero, suc, ◌+◌, ◌-◌, ◌*◌, ◌/◌, ◌%◌, ◌<◌, ◌≤◌, List, [], ◌∷◌, ◌++◌, length, take, drop, get_or, Bool, true, false, cond, refl, sym, ap, subst, ◌∙◌, inl, inr, arith, append_assoc, length-append}
use Rattle.std.specs.Prelude.{◌⊎◌, ◌≢◌, codes, slice_index, slice_range, nat_lt, Option, Some, None, IsTrue, Result, Ok, Err, IfOk}
use Rattle.std.specs.Char.{digit_value}
use Rattle.std.specs.Int.{w16, from_be_bytes}
use Rattle.std.specs.List.{flat_map}
use Rattle.std.specs.Str.Parse.{AllDigits}
use Rattle.std.proofs.lemmas.Bool.{false≢true, cases_lt, lt-ltb, cond_below, cond_above}
use Rattle.std.proofs.lemmas.List.{append-nil, append_cancel_left, append_cancel_right, drop-append-le}
use Rattle.domain_header.specs.Numbers.{number16}
use Rattle.domain_label.specs.Hex.{hex_digit}
use Rattle.domain_lines.specs.Edns.{four_digits}
use Rattle.domain_message.specs.Options.{EndsInOption}
use Rattle.domain_message_builder.specs.Opt.{option_octets}
use Rattle.domain_rdata.specs.AnyData.{spaced_octet}
use Rattle.domain_make.specs.Opts.{IsHexDigit, IsHexOctet, AreOctets, ArePairs, BeginsWithPair, IsZeroText, IsStatusText, IsSizeText, IsEdnsLine, IsOptionLine, IsCut, IsCutLine, IsFirstLine, BeginsWithLine, AreOptionsAhead, AddsOption, AddsCut, AddsLine, IsLineOf}
use Rattle.domain_make.specs.Opts.AreOptionsAhead.{no_more, cut, option}
use Rattle.domain_make.specs.Opts.IsSizeText.{alone, coded}
use Rattle.domain_make.specs.Opts.IsStatusText.{bad_version, bad_cookie, numbered}
use Rattle.domain_make.specs.Opts.IsZeroText.{none, some}
use Rattle.domain_make.specs.Parts.{IsNumberBelow}
use Rattle.domain_make.specs.Remarks.{IsTrimmed, words_before}
use Rattle.domain_make.specs.declared.error.Stop.{Stop}
use Rattle.domain_make.specs.declared.opt.EdnsTold.{EdnsTold}
use Rattle.domain_make.specs.declared.opt.OptionLine.{OptionLine}
use Rattle.domain_make.specs.declared.opt.OptionLine.TheVariants.{Cut, Other, Whole}
use Rattle.domain_make.proofs.Marking.{trimmed_once, Looked, flag_step}
use Rattle.domain_make.proofs.Texts.{Without, apart, parted_once, not_without, follows}

-- ---- numbers

digits_lack : (c : ℕ) (w : List ℕ) → nat_lt (digit_value c) 10 ≡ false → AllDigits 10 w → Without c w
digits_lack c [] other all k inside = absurd (omega arith)
digits_lack c (x ∷ w) other all zero inside = λ is. false≢true (sym other ∙ lt-ltb (digit_value c) 10 (subst (λ d. digit_value d < 10) is all.0))
digits_lack c (x ∷ w) other all (suc k) inside = digits_lack c w other all.1 k (omega arith)

-- A number has no such octet, which is no digit.
pub number_lacks : (c bound : ℕ) (w : List ℕ) (n : ℕ) → nat_lt (digit_value c) 10 ≡ false → IsNumberBelow bound w n → Without c w
number_lacks c bound w n other is = digits_lack c w other is.0.1.numeral.1

-- Digits are one number.
pub number_once : (b d : ℕ) (w : List ℕ) (n m : ℕ) → IsNumberBelow b w n → IsNumberBelow d w m → n ≡ m
number_once b d w n m is also = is.0.1.number ∙ sym also.0.1.number

-- ---- digits in hexadecimal

hex_below : (n : ℕ) → n < 10 → hex_digit n ≡ n + 48
hex_below n less = sym (cond_below n 10 (n + 48) (n + 87) less)

hex_above : (n : ℕ) → 10 ≤ n → hex_digit n ≡ n + 87
hex_above n more = sym (cond_above n 10 (n + 48) (n + 87) (n + 87) more refl)

pub hex_low : (d : ℕ) → 48 ≤ d → d ≤ 57 → IsHexDigit d (d - 48)
hex_low d low high =
    let e : d ≡ d - 48 + 48 = omega arith in
    let less : d - 48 < 10 = omega arith in
    record { small = omega arith; digit_is = e ∙ sym (hex_below (d - 48) less) }

pub hex_high : (d : ℕ) → 97 ≤ d → d ≤ 102 → IsHexDigit d (d - 97 + 10)
hex_high d low high =
    let e : d ≡ d - 97 + 10 + 87 = omega arith in
    let more : 10 ≤ d - 97 + 10 = omega arith in
    record { small = omega arith; digit_is = e ∙ sym (hex_above (d - 97 + 10) more) }

-- A digit is one of these octets.
pub hex_range : (d n : ℕ) → IsHexDigit d n → ((48 ≤ d) × (d ≤ 57)) ⊎ ((97 ≤ d) × (d ≤ 102))
hex_range d n is = elim (cases_lt n 10) [
  | inl less ↦ let e : d ≡ n + 48 = is.digit_is ∙ hex_below n less in inl (omega arith, omega arith)
  | inr more ↦ let e : d ≡ n + 87 = is.digit_is ∙ hex_above n more in let s : n < 16 = is.small in inr (omega arith, omega arith)
]

hex_same : (n m : ℕ) → n < 16 → m < 16 → hex_digit n ≡ hex_digit m → n ≡ m
hex_same n m small few e = elim (cases_lt n 10) [
  | inl less ↦ elim (cases_lt m 10) [
    | inl also ↦ omega (arith, sym (hex_below n less) ∙ (e ∙ hex_below m also))
    | inr more ↦ absurd (omega (arith, sym (hex_below n less) ∙ (e ∙ hex_above m more)))
  ]
  | inr more ↦ elim (cases_lt m 10) [
    | inl less ↦ absurd (omega (arith, sym (hex_above n more) ∙ (e ∙ hex_below m less)))
    | inr also ↦ omega (arith, sym (hex_above n more) ∙ (e ∙ hex_above m also))
  ]
]

-- An octet is the digits of its parts.
pub octet_parts : (high low octet : ℕ) → IsHexOctet high low octet → IsHexDigit high (octet / 16) × IsHexDigit low (octet % 16)
octet_parts high low octet is =
    let s : octet < 256 = is.small in
    (record { small = omega arith; digit_is = is.high_is }, record { small = omega arith; digit_is = is.low_is })

pub octet_of : (high low h l : ℕ) → IsHexDigit high h → IsHexDigit low l → IsHexOctet high low (h * 16 + l)
octet_of high low h l x y =
    let a : h < 16 = x.small in
    let b : l < 16 = y.small in
    let q : (h * 16 + l) / 16 ≡ h = omega arith in
    let r : (h * 16 + l) % 16 ≡ l = omega arith in
    record { small = omega arith; high_is = x.digit_is ∙ ap (λ n. hex_digit n) (sym q); low_is = y.digit_is ∙ ap (λ n. hex_digit n) (sym r) }

pub octet_once : (high low a b : ℕ) → IsHexOctet high low a → IsHexOctet high low b → a ≡ b
octet_once high low a b is also =
    let x = octet_parts high low a is in
    let y = octet_parts high low b also in
    let p : a / 16 ≡ b / 16 = hex_same (a / 16) (b / 16) x.0.small y.0.small (sym x.0.digit_is ∙ y.0.digit_is) in
    let r : a % 16 ≡ b % 16 = hex_same (a % 16) (b % 16) x.1.small y.1.small (sym x.1.digit_is ∙ y.1.digit_is) in
    omega arith

-- ---- the octets that a text begins with

take_all : (t : List ℕ) (n : ℕ) → length t ≤ n → take n t ≡ t
take_all [] zero few = refl
take_all [] (suc n) few = refl
take_all (x ∷ t) zero few = absurd (omega arith)
take_all (x ∷ t) (suc n) few = ap (λ z. x ∷ z) (take_all t n (omega arith))

-- the rest after the first of the octets
abbrev pub left : ℕ → List ℕ → List ℕ
left n t = take (length t - n) (drop n t)

three_first : (t : List ℕ) → 3 ≤ length t → t ≡ get_or t 0 0 ∷ get_or t 1 0 ∷ get_or t 2 0 ∷ left 3 t
three_first [] few = absurd (omega arith)
three_first (a ∷ []) few = absurd (omega arith)
three_first (a ∷ b ∷ []) few = absurd (omega arith)
three_first (a ∷ b ∷ x ∷ t) few = ap (λ z. a ∷ b ∷ x ∷ z) (sym (take_all t (length (a ∷ b ∷ x ∷ t) - 3) (omega arith)))

four_first : (t : List ℕ) → 4 ≤ length t → t ≡ get_or t 0 0 ∷ get_or t 1 0 ∷ get_or t 2 0 ∷ get_or t 3 0 ∷ left 4 t
four_first [] few = absurd (omega arith)
four_first (a ∷ []) few = absurd (omega arith)
four_first (a ∷ b ∷ []) few = absurd (omega arith)
four_first (a ∷ b ∷ x ∷ []) few = absurd (omega arith)
four_first (a ∷ b ∷ x ∷ y ∷ t) few = ap (λ z. a ∷ b ∷ x ∷ y ∷ z) (sym (take_all t (length (a ∷ b ∷ x ∷ y ∷ t) - 4) (omega arith)))

same_three : (a b c x y z : ℕ) (r : List ℕ) → a ≡ x → b ≡ y → c ≡ z → a ∷ b ∷ c ∷ r ≡ x ∷ y ∷ z ∷ r
same_three a b c x y z r e f g = cc

same_four : (a b c d x y z w : ℕ) (r s : List ℕ) → a ≡ x → b ≡ y → c ≡ z → d ≡ w → r ≡ s → a ∷ b ∷ c ∷ d ∷ r ≡ x ∷ y ∷ z ∷ w ∷ s
same_four a b c d x y z w r s e f g h i = cc

-- ---- pairs of digits

pub pair_is : (t : List ℕ) (octet : ℕ) → 3 ≤ length t → get_or t 0 0 ≡ 32 → IsHexOctet (get_or t 1 0) (get_or t 2 0) octet → BeginsWithPair t octet (left 3 t)
pair_is t octet long space is = record {
  small = is.small;
  text_is = three_first t long ∙ same_three (get_or t 0 0) (get_or t 1 0) (get_or t 2 0) 32 (hex_digit (octet / 16)) (hex_digit (octet % 16)) (left 3 t) space is.high_is is.low_is;
}

-- What a text has that begins so.
pub record PairParts (t : List ℕ) (octet : ℕ) (rest : List ℕ) : Type 0 where
  pub long : 3 ≤ length t
  pub space : get_or t 0 0 ≡ 32
  pub hex : IsHexOctet (get_or t 1 0) (get_or t 2 0) octet
  pub rest_is : rest ≡ left 3 t

pub pair_parts : (t : List ℕ) (octet : ℕ) (rest : List ℕ) → BeginsWithPair t octet rest → PairParts t octet rest
pair_parts t octet rest is =
    let whole : List ℕ = 32 ∷ hex_digit (octet / 16) ∷ hex_digit (octet % 16) ∷ rest in
    let its : PairParts whole octet rest = record {
      long = omega arith;
      space = refl;
      hex = record { small = is.small; high_is = refl; low_is = refl };
      rest_is = sym (take_all rest (length whole - 3) (omega arith));
    } in
    subst (λ u. PairParts u octet rest) (sym is.text_is) its

pair_once : (t : List ℕ) (x y : ℕ) (r s : List ℕ) → BeginsWithPair t x r → BeginsWithPair t y s → (x ≡ y) × (r ≡ s)
pair_once t x y r s a b =
    let p = pair_parts t x r a in
    let q = pair_parts t y s b in
    (octet_once (get_or t 1 0) (get_or t 2 0) x y p.hex q.hex, p.rest_is ∙ sym q.rest_is)

-- What is left is shorter.
pub shorter : (t : List ℕ) (x : ℕ) (rest : List ℕ) → BeginsWithPair t x rest → length rest < length t
shorter t x rest is = omega (arith, ap length is.text_is)

octets_more : (x : ℕ) (os : List ℕ) → x < 256 → AreOctets os → AreOctets (x ∷ os)
octets_more x os small all zero inside = small
octets_more x os small all (suc k) inside = all k (omega arith)

pub pairs_more : (t : List ℕ) (x : ℕ) (rest os : List ℕ) → BeginsWithPair t x rest → ArePairs rest os → ArePairs t (x ∷ os)
pairs_more t x rest os pair are = record { small = octets_more x os pair.small are.small; text_is = pair.text_is ∙ ap (λ r. spaced_octet x ++ r) are.text_is }

-- The first pair of a text, and those after it.
pub record FirstPair (t os : List ℕ) : Type 0 where
  pub octet : ℕ
  pub rest : List ℕ
  pub more : List ℕ
  pub pair : BeginsWithPair t octet rest
  pub are : ArePairs rest more
  pub all : os ≡ octet ∷ more

pub pairs_first : (t os : List ℕ) → 0 < length t → ArePairs t os → FirstPair t os
pairs_first t [] longer are = absurd (omega (arith, ap length are.text_is))
pairs_first t (x ∷ os) longer are = record {
  octet = x;
  rest = flat_map spaced_octet os;
  more = os;
  pair = record { small = are.small 0 (omega arith); text_is = are.text_is };
  are = record { small = λ k inside. are.small (suc k) (omega arith); text_is = refl };
  all = refl;
}

same_list : (x y : ℕ) (a b : List ℕ) → x ≡ y → a ≡ b → x ∷ a ≡ y ∷ b
same_list x y a b e f = cc

-- A text is pairs of one list of octets.
pub pairs_once : (t os ps : List ℕ) → ArePairs t os → ArePairs t ps → os ≡ ps
pairs_once t [] [] a b = refl
pairs_once t [] (y ∷ ps) a b = absurd (omega (arith, ap length (sym a.text_is ∙ b.text_is)))
pairs_once t (x ∷ os) [] a b = absurd (omega (arith, ap length (sym a.text_is ∙ b.text_is)))
pairs_once t (x ∷ os) (y ∷ ps) a b =
    let begins : BeginsWithPair t x (flat_map spaced_octet os) = record { small = a.small 0 (omega arith); text_is = a.text_is } in
    let also : BeginsWithPair t y (flat_map spaced_octet ps) = record { small = b.small 0 (omega arith); text_is = b.text_is } in
    let same = pair_once t x y (flat_map spaced_octet os) (flat_map spaced_octet ps) begins also in
    let first : ArePairs (flat_map spaced_octet os) os = record { small = λ k inside. a.small (suc k) (omega arith); text_is = refl } in
    let second : ArePairs (flat_map spaced_octet os) ps = record { small = λ k inside. b.small (suc k) (omega arith); text_is = same.1 } in
    same_list x y os ps same.0 (pairs_once (flat_map spaced_octet os) os ps first second)

-- What was read of a text: the octets before what is left of it.
pub record PairsRead (text rest octets : List ℕ) : Type 0 where
  pub read : (os : List ℕ) → ArePairs rest os → ArePairs text (octets ++ os)
  pub all : (os : List ℕ) → ArePairs text os → (more : List ℕ) × ArePairs rest more

pub read_none : (text octets : List ℕ) → octets ≡ [] → PairsRead text text octets
read_none text octets is = record { read = λ os are. subst (λ z. ArePairs text (z ++ os)) (sym is) are; all = λ os are. (os, are) }

pub read_more : (text t rest old new : List ℕ) (x : ℕ) → new ≡ old ++ (x ∷ []) → BeginsWithPair t x rest → PairsRead text t old → PairsRead text rest new
read_more text t rest old new x is pair before = record {
  read = λ os are. subst (λ z. ArePairs text z) (sym (ap (λ z. z ++ os) is ∙ append_assoc old (x ∷ []) os)) (before.read (x ∷ os) (pairs_more t x rest os pair are));
  all = λ os are.
      let had = before.all os are in
      let first = pairs_first t had.0 (omega (arith, (pair_parts t x rest pair).long)) had.1 in
      (first.more, subst (λ r. ArePairs r first.more) (pair_once t first.octet x first.rest rest first.pair pair).1 first.are);
}

pub read_no_more : (text t octets : List ℕ) → 0 < length t → PairsRead text t octets → ((x : ℕ) (rest : List ℕ) → BeginsWithPair t x rest → ⊥) → (os : List ℕ) → ArePairs text os → ⊥
read_no_more text t octets longer before never os are =
    let had = before.all os are in
    let first = pairs_first t had.0 longer had.1 in
    never first.octet first.rest first.pair

pub read_all : (text t octets : List ℕ) → length t ≤ 0 → PairsRead text t octets → ArePairs text octets
read_all text [] octets few before = subst (λ z. ArePairs text z) (append-nil octets) (before.read [] (record { small = λ k inside. absurd (omega arith); text_is = refl }))
read_all text (x ∷ t) octets few before = absurd (omega arith)

-- ---- bits that must be zero

first_digit : (high low : ℕ) → high < 64 → low < 256 → (high * 256 + low) / 4096 % 16 ≡ high / 16
first_digit high low few small = omega arith

second_digit : (high low : ℕ) → low < 256 → (high * 256 + low) / 256 % 16 ≡ high % 16
second_digit high low small = omega arith

third_digit : (high low : ℕ) → low < 256 → (high * 256 + low) / 16 % 16 ≡ low / 16
third_digit high low small = omega arith

last_digit : (high low : ℕ) → (high * 256 + low) % 16 ≡ low % 16
last_digit high low = omega arith

bits_small : (high low : ℕ) → high < 64 → low < 256 → high * 256 + low < 16384
bits_small high low few small = omega arith

pub zero_is : (text rest after : List ℕ) (high low : ℕ) → text ≡ codes "MBZ: 0x" ++ rest → 4 ≤ length rest → IsHexOctet (get_or rest 0 0) (get_or rest 1 0) high → IsHexOctet (get_or rest 2 0) (get_or rest 3 0) low → left 4 rest ≡ codes ", " ++ after → high < 64
    → IsZeroText text (high * 256 + low) after
zero_is text rest after high low is long x y ends few =
    let n : ℕ = high * 256 + low in
    let a : n / 4096 % 16 ≡ high / 16 = first_digit high low few y.small in
    let b : n / 256 % 16 ≡ high % 16 = second_digit high low y.small in
    let c : n / 16 % 16 ≡ low / 16 = third_digit high low y.small in
    let d : n % 16 ≡ low % 16 = last_digit high low in
    let digits : rest ≡ four_digits n ++ (codes ", " ++ after) =
    four_first rest long ∙ same_four (get_or rest 0 0) (get_or rest 1 0) (get_or rest 2 0) (get_or rest 3 0) (hex_digit (n / 4096 % 16)) (hex_digit (n / 256 % 16)) (hex_digit (n / 16 % 16)) (hex_digit (n % 16)) (left 4 rest) (codes ", " ++ after)
    (x.high_is ∙ ap (λ k. hex_digit k) (sym a)) (x.low_is ∙ ap (λ k. hex_digit k) (sym b)) (y.high_is ∙ ap (λ k. hex_digit k) (sym c)) (y.low_is ∙ ap (λ k. hex_digit k) (sym d)) ends in
    some (bits_small high low few y.small) (follows (codes "MBZ: 0x") text rest (four_digits n ++ (codes ", " ++ after)) is digits)

-- What a text has where such bits are after its beginning.
pub record ZeroParts (rest : List ℕ) (n : ℕ) (after : List ℕ) : Type 0 where
  pub small : n < 16384
  pub long : 4 ≤ length rest
  pub high : IsHexOctet (get_or rest 0 0) (get_or rest 1 0) (n / 256)
  pub low : IsHexOctet (get_or rest 2 0) (get_or rest 3 0) (n % 256)
  pub ends : left 4 rest ≡ codes ", " ++ after

zero_whole : (n : ℕ) (after : List ℕ) → n < 16384 → ZeroParts (four_digits n ++ (codes ", " ++ after)) n after
zero_whole n after few =
    let a : n / 4096 % 16 ≡ n / 256 / 16 = omega arith in
    let c : n / 16 % 16 ≡ n % 256 / 16 = omega arith in
    let d : n % 16 ≡ n % 256 % 16 = omega arith in
    let rest : List ℕ = codes ", " ++ after in
    record {
      small = few;
      long = omega arith;
      high = record { small = omega arith; high_is = ap (λ k. hex_digit k) a; low_is = refl };
      low = record { small = omega arith; high_is = ap (λ k. hex_digit k) c; low_is = ap (λ k. hex_digit k) d };
      ends = take_all rest (length (four_digits n ++ rest) - 4) (omega arith);
    }

pub zero_parts : (text rest after : List ℕ) (n : ℕ) → text ≡ codes "MBZ: 0x" ++ rest → IsZeroText text n after → ZeroParts rest n after
zero_parts text rest after n is (none other unset same) = absurd (other rest is)
zero_parts text rest after n is (some few same) = subst (λ r. ZeroParts r n after) (append_cancel_left (codes "MBZ: 0x") (four_digits n ++ (codes ", " ++ after)) rest (sym same ∙ is)) (zero_whole n after few)

-- The bits are less than 16,384.
pub zero_few : (text rest after : List ℕ) (n high : ℕ) → text ≡ codes "MBZ: 0x" ++ rest → IsHexOctet (get_or rest 0 0) (get_or rest 1 0) high → 64 ≤ high → IsZeroText text n after → ⊥
zero_few text rest after n high is x many set =
    let its = zero_parts text rest after n is set in
    let same : high ≡ n / 256 = octet_once (get_or rest 0 0) (get_or rest 1 0) high (n / 256) x its.high in
    let few : n < 16384 = its.small in
    absurd (omega arith)

-- What follows them is one text.
pub zero_once : (text : List ℕ) (n m : ℕ) (after rest : List ℕ) → IsZeroText text n after → IsZeroText text m rest → after ≡ rest
zero_once text n m after rest (none other unset same) (none also unset_too is) = same ∙ sym is
zero_once text n m after rest (none other unset same) (some few is) = absurd (other (four_digits m ++ (codes ", " ++ rest)) is)
zero_once text n m after rest (some few is) (none other unset same) = absurd (other (four_digits n ++ (codes ", " ++ after)) is)
zero_once text n m after rest (some few is) (some small also) =
    let its = zero_whole n after few in
    let they = zero_parts text (four_digits n ++ (codes ", " ++ after)) rest m is (some small also) in
    append_cancel_left (codes ", ") after rest (sym its.ends ∙ they.ends)

-- ---- response codes and sizes

pub status_number : (text digits : List ℕ) (n : ℕ) → text ≡ codes "RCODE" ++ digits → (text ≡ codes "BADVERS" → ⊥) → (text ≡ codes "BADCOOKIE" → ⊥) → IsStatusText text n → IsNumberBelow 4096 digits n × (16 ≤ n)
status_number text digits n is no_version no_cookie (bad_version same code) = absurd (no_version same)
status_number text digits n is no_version no_cookie (bad_cookie same code) = absurd (no_cookie same)
status_number text digits n is no_version no_cookie (numbered others same number big) = (subst (λ w. IsNumberBelow 4096 w n) (append_cancel_left (codes "RCODE") others digits (sym same ∙ is)) number, big)

pub status_begins : (text : List ℕ) (n : ℕ) → ((digits : List ℕ) → text ≡ codes "RCODE" ++ digits → ⊥) → (text ≡ codes "BADVERS" → ⊥) → (text ≡ codes "BADCOOKIE" → ⊥) → IsStatusText text n → ⊥
status_begins text n never no_version no_cookie (bad_version same code) = no_version same
status_begins text n never no_version no_cookie (bad_cookie same code) = no_cookie same
status_begins text n never no_version no_cookie (numbered others same number big) = never others same

pub size_alone : (text : List ℕ) (n : ℕ) (code : Option ℕ) → Without 44 text → IsSizeText text n code → IsNumberBelow 65536 text n
size_alone text n code lack (alone number untold) = number
size_alone text n code lack (coded digits status k is number told same) = absurd (not_without 44 digits (codes " status: " ++ status) text is lack)

-- What a text has that tells a response code.
pub record SizeParts (digits rest : List ℕ) (n : ℕ) : Type 0 where
  pub status : List ℕ
  pub code : ℕ
  pub number : IsNumberBelow 65536 digits n
  pub rest_is : rest ≡ codes " status: " ++ status
  pub told : IsStatusText status code

pub size_parts : (text digits rest : List ℕ) (n : ℕ) (code : Option ℕ) → text ≡ digits ++ (44 ∷ rest) → Without 44 digits → IsSizeText text n code → SizeParts digits rest n
size_parts text digits rest n code is lack (alone number untold) = absurd (not_without 44 digits rest text is (number_lacks 44 65536 text n refl number))
size_parts text digits rest n code is lack (coded others status k same number told code_is) =
    let parts = parted_once 44 others (codes " status: " ++ status) digits rest (number_lacks 44 65536 others n refl number) lack (sym same ∙ is) in
    record { status = status; code = k; number = subst (λ w. IsNumberBelow 65536 w n) parts.0 number; rest_is = sym parts.1; told = told }

pub size_is : (text digits rest status : List ℕ) (n k : ℕ) → text ≡ digits ++ (44 ∷ rest) → rest ≡ codes " status: " ++ status → IsNumberBelow 65536 digits n → IsStatusText status k → IsSizeText text n (Some k)
size_is text digits rest status n k is more number told = coded digits status k (is ∙ ap (λ r. digits ++ (44 ∷ r)) more) number told refl

pub status_of_size : (digits rest status : List ℕ) (n : ℕ) → (its : SizeParts digits rest n) → rest ≡ codes " status: " ++ status → IsStatusText status its.code
status_of_size digits rest status n its is = subst (λ s. IsStatusText s its.code) (append_cancel_left (codes " status: ") its.status status (sym its.rest_is ∙ is)) its.told

-- ---- the first line

-- what follows the flags that the line tells
abbrev pub flags_told : EdnsTold → List ℕ → List ℕ
flags_told told from_zero = words_before ((told.dnssec_ok, codes " do") ∷ (told.compact_ok, codes " co") ∷ []) (codes "; " ++ from_zero)

-- The parts of a first line up to each of its words. `begins`, `version` and so on are what was found of it.
pub edns_version : (text r : List ℕ) (told : EdnsTold) → (is : IsEdnsLine text told) → text ≡ codes "; EDNS: version: " ++ r → is.version_digits ++ (44 ∷ (codes " flags:" ++ flags_told told is.from_zero)) ≡ r
edns_version text r told is e = append_cancel_left (codes "; EDNS: version: ") (is.version_digits ++ (44 ∷ (codes " flags:" ++ flags_told told is.from_zero))) r (sym is.text_is ∙ e)

pub edns_comma : (text r : List ℕ) (told : EdnsTold) → IsEdnsLine text told → text ≡ codes "; EDNS: version: " ++ r → Without 44 r → ⊥
edns_comma text r told is e lack = not_without 44 is.version_digits (codes " flags:" ++ flags_told told is.from_zero) r (sym (edns_version text r told is e)) lack

pub edns_parts : (text r d s : List ℕ) (told : EdnsTold) → (is : IsEdnsLine text told) → text ≡ codes "; EDNS: version: " ++ r → r ≡ d ++ (44 ∷ s) → Without 44 d
    → (is.version_digits ≡ d) × (codes " flags:" ++ flags_told told is.from_zero ≡ s)
edns_parts text r d s told is e f lack =
    parted_once 44 is.version_digits (codes " flags:" ++ flags_told told is.from_zero) d s (number_lacks 44 256 is.version_digits told.version refl is.version_is) lack (edns_version text r told is e ∙ f)

pub edns_number : (text r d s : List ℕ) (told : EdnsTold) → IsEdnsLine text told → text ≡ codes "; EDNS: version: " ++ r → r ≡ d ++ (44 ∷ s) → Without 44 d → IsNumberBelow 256 d told.version
edns_number text r d s told is e f lack = subst (λ w. IsNumberBelow 256 w told.version) (edns_parts text r d s told is e f lack).0 is.version_is

-- What was found of a first line: what is before its version, the version, and what is before its flags.
pub record EdnsBegins (text s : List ℕ) : Type 0 where
  pub from_version : List ℕ
  pub digits : List ℕ
  pub from_flags : List ℕ
  pub begins : text ≡ codes "; EDNS: version: " ++ from_version
  pub version : from_version ≡ digits ++ (44 ∷ from_flags)
  pub lack : Without 44 digits
  pub flags : from_flags ≡ codes " flags:" ++ s

pub edns_begins : (text v d f s : List ℕ) → text ≡ codes "; EDNS: version: " ++ v → v ≡ d ++ (44 ∷ f) → Without 44 d → f ≡ codes " flags:" ++ s → EdnsBegins text s
edns_begins text v d f s begins version lack flags = record { from_version = v; digits = d; from_flags = f; begins = begins; version = version; lack = lack; flags = flags }

pub edns_flags : (text s : List ℕ) (told : EdnsTold) → EdnsBegins text s → (is : IsEdnsLine text told) → s ≡ flags_told told is.from_zero
edns_flags text s told has is =
    append_cancel_left (codes " flags:") s (flags_told told is.from_zero) (sym has.flags ∙ sym (edns_parts text has.from_version has.digits has.from_flags told is has.begins has.version has.lack).1)

-- Flags that were looked for one after the other.
pub record FlagsFound (s u : List ℕ) : Type 0 where
  pub between : List ℕ
  pub dnssec_ok : Bool
  pub compact_ok : Bool
  pub first : Looked (codes " do") s between dnssec_ok
  pub second : Looked (codes " co") between u compact_ok

pub flags_found : (s t u : List ℕ) (x y : Bool) → Looked (codes " do") s t x → Looked (codes " co") t u y → FlagsFound s u
flags_found s t u x y first second = record { between = t; dnssec_ok = x; compact_ok = y; first = first; second = second }

pub edns_semicolon : (text s u : List ℕ) (told : EdnsTold) → EdnsBegins text s → FlagsFound s u → (is : IsEdnsLine text told) → u ≡ codes "; " ++ is.from_zero
edns_semicolon text s u told has found is =
    let stop : List ℕ = codes "; " ++ is.from_zero in
    let e : found.between ≡ words_before ((told.compact_ok, codes " co") ∷ []) stop =
    flag_step (codes " do") s found.between found.dnssec_ok told.dnssec_ok ((told.compact_ok, codes " co") ∷ []) stop found.first (edns_flags text s told has is) refl (λ _ x. apart (codes "; ") (codes " do") is.from_zero x refl) in
    flag_step (codes " co") found.between u found.compact_ok told.compact_ok [] stop found.second e refl (λ _ x. apart (codes "; ") (codes " co") is.from_zero x refl)

pub edns_zero : (text s u v : List ℕ) (told : EdnsTold) → EdnsBegins text s → FlagsFound s u → u ≡ codes "; " ++ v → (is : IsEdnsLine text told) → IsZeroText v told.zero (codes "udp: " ++ is.from_size)
edns_zero text s u v told has found ends is =
    subst (λ z. IsZeroText z told.zero (codes "udp: " ++ is.from_size)) (append_cancel_left (codes "; ") is.from_zero v (sym (edns_semicolon text s u told has found is) ∙ ends)) is.zero_is

pub edns_size : (text s u v w : List ℕ) (n : ℕ) (told : EdnsTold) → EdnsBegins text s → FlagsFound s u → u ≡ codes "; " ++ v → IsZeroText v n w → (is : IsEdnsLine text told) → w ≡ codes "udp: " ++ is.from_size
edns_size text s u v w n told has found ends bits is = zero_once v n told.zero w (codes "udp: " ++ is.from_size) bits (edns_zero text s u v told has found ends is)

pub edns_last : (text s u v w x : List ℕ) (n : ℕ) (told : EdnsTold) → EdnsBegins text s → FlagsFound s u → u ≡ codes "; " ++ v → IsZeroText v n w → w ≡ codes "udp: " ++ x → (is : IsEdnsLine text told) → IsSizeText x told.size told.code
edns_last text s u v w x n told has found ends bits udp is =
    subst (λ z. IsSizeText z told.size told.code) (append_cancel_left (codes "udp: ") is.from_size x (sym (edns_size text s u v w n told has found ends bits is) ∙ udp)) is.size_is

-- The line that was found.
pub edns_is : (text s u v w x : List ℕ) (told : EdnsTold) → (has : EdnsBegins text s) → (found : FlagsFound s u) → u ≡ codes "; " ++ v → IsZeroText v told.zero w → w ≡ codes "udp: " ++ x → IsNumberBelow 256 has.digits told.version → IsSizeText x told.size told.code
    → found.dnssec_ok ≡ told.dnssec_ok → found.compact_ok ≡ told.compact_ok → IsEdnsLine text told
edns_is text s u v w x told has found ends bits udp version size same_do same_co =
    let compact : found.between ≡ cond told.compact_ok (codes " co") [] ++ (codes "; " ++ v) = subst (λ b. found.between ≡ cond b (codes " co") [] ++ (codes "; " ++ v)) same_co (follows (cond found.compact_ok (codes " co") []) found.between u (codes "; " ++ v) found.second.0 ends) in
    let flags : s ≡ flags_told told v = subst (λ b. s ≡ cond b (codes " do") [] ++ (cond told.compact_ok (codes " co") [] ++ (codes "; " ++ v))) same_do (follows (cond found.dnssec_ok (codes " do") []) s found.between (cond told.compact_ok (codes " co") [] ++ (codes "; " ++ v)) found.first.0 compact) in
    let from_flags : has.from_flags ≡ codes " flags:" ++ flags_told told v = follows (codes " flags:") has.from_flags s (flags_told told v) has.flags flags in
    record {
      version_digits = has.digits;
      from_zero = v;
      from_size = x;
      text_is = follows (codes "; EDNS: version: ") text has.from_version (has.digits ++ (44 ∷ (codes " flags:" ++ flags_told told v))) has.begins (has.version ∙ ap (λ r. has.digits ++ (44 ∷ r)) from_flags);
      version_is = version;
      zero_is = subst (λ z. IsZeroText v told.zero z) udp bits;
      size_is = size;
    }

-- ---- options

option_rest : (text r octets : List ℕ) → (is : IsOptionLine text octets) → text ≡ codes "; OPT=" ++ r → is.digits ++ (58 ∷ is.pairs) ≡ r
option_rest text r octets is e = append_cancel_left (codes "; OPT=") (is.digits ++ (58 ∷ is.pairs)) r (sym is.text_is ∙ e)

option_parts : (text r d p octets : List ℕ) → (is : IsOptionLine text octets) → text ≡ codes "; OPT=" ++ r → r ≡ d ++ (58 ∷ p) → Without 58 d → (is.digits ≡ d) × (is.pairs ≡ p)
option_parts text r d p octets is e f lack = parted_once 58 is.digits is.pairs d p (number_lacks 58 65536 is.digits is.code refl is.code_is) lack (option_rest text r octets is e ∙ f)

pub no_option_word : (text octets : List ℕ) → ((r : List ℕ) → text ≡ codes "; OPT=" ++ r → ⊥) → IsOptionLine text octets → ⊥
no_option_word text octets never is = never (is.digits ++ (58 ∷ is.pairs)) is.text_is

pub no_option_colon : (text r octets : List ℕ) → text ≡ codes "; OPT=" ++ r → Without 58 r → IsOptionLine text octets → ⊥
no_option_colon text r octets e lack is = not_without 58 is.digits is.pairs r (sym (option_rest text r octets is e)) lack

pub no_option_code : (text r d p octets : List ℕ) → text ≡ codes "; OPT=" ++ r → r ≡ d ++ (58 ∷ p) → Without 58 d → ((n : ℕ) → IsNumberBelow 65536 d n → ⊥) → IsOptionLine text octets → ⊥
no_option_code text r d p octets e f lack never is = never is.code (subst (λ w. IsNumberBelow 65536 w is.code) (option_parts text r d p octets is e f lack).0 is.code_is)

pub no_option_pairs : (text r d p octets : List ℕ) → text ≡ codes "; OPT=" ++ r → r ≡ d ++ (58 ∷ p) → Without 58 d → ((os : List ℕ) → ArePairs p os → ⊥) → IsOptionLine text octets → ⊥
no_option_pairs text r d p octets e f lack never is = never is.data_octets (subst (λ w. ArePairs w is.data_octets) (option_parts text r d p octets is e f lack).1 is.pairs_are)

pub no_long_option : (text r d p os octets : List ℕ) → text ≡ codes "; OPT=" ++ r → r ≡ d ++ (58 ∷ p) → Without 58 d → ArePairs p os → 65535 < length os → IsOptionLine text octets → ⊥
no_long_option text r d p os octets e f lack are long is =
    let same : os ≡ is.data_octets = pairs_once p os is.data_octets are (subst (λ w. ArePairs w is.data_octets) (option_parts text r d p octets is e f lack).1 is.pairs_are) in
    absurd (omega (arith, ap length same, is.short))

pub option_is : (text r d p os : List ℕ) (n : ℕ) → text ≡ codes "; OPT=" ++ r → r ≡ d ++ (58 ∷ p) → IsNumberBelow 65536 d n → ArePairs p os → length os ≤ 65535 → IsOptionLine text (option_octets n os)
option_is text r d p os n e f number are short = record {
  code = n;
  digits = d;
  pairs = p;
  data_octets = os;
  text_is = follows (codes "; OPT=") text r (d ++ (58 ∷ p)) e f;
  code_is = number;
  pairs_are = are;
  short = short;
  octets_are = refl;
}

-- Three lists were appended, one after the other.
pub append_three : (old first second new a b os x y z : List ℕ) → a ≡ x → b ≡ y → os ≡ z → first ≡ old ++ a → second ≡ first ++ b → new ≡ second ++ os → new ≡ old ++ (x ++ (y ++ z))
append_three old first second new a b os x y z is also last e f g =
    g ∙ (ap (λ w. w ++ os) (f ∙ ap (λ w. w ++ b) e) ∙ (append_assoc (old ++ a) b os ∙ append_assoc old a (b ++ os)))
    ∙ (ap (λ w. old ++ (w ++ (b ++ os))) is ∙ (ap (λ w. old ++ (x ++ (w ++ os))) also ∙ ap (λ w. old ++ (x ++ (y ++ w))) last))

-- ---- octets that end before an option does

pair_at : (t : List ℕ) → 4 ≤ length t → get_or t 2 0 ∷ get_or t 3 0 ∷ [] ≡ slice_range t 2 4
pair_at [] few = absurd (omega arith)
pair_at (a ∷ []) few = absurd (omega arith)
pair_at (a ∷ b ∷ []) few = absurd (omega arith)
pair_at (a ∷ b ∷ x ∷ []) few = absurd (omega arith)
pair_at (a ∷ b ∷ x ∷ y ∷ t) few = refl

pub data_len_is : (t : List ℕ) → 4 ≤ length t → from_be_bytes w16 (get_or t 2 0 ∷ get_or t 3 0 ∷ []) ≡ number16 t 2
data_len_is t long = ap (λ z. from_be_bytes w16 z) (pair_at t long)

first_space : (pairs octets : List ℕ) → 0 < length octets → ArePairs pairs octets → (more : List ℕ) × (pairs ≡ 32 ∷ more)
first_space pairs [] few are = absurd (omega arith)
first_space pairs (x ∷ octets) few are = (hex_digit (x / 16) ∷ hex_digit (x % 16) ∷ flat_map spaced_octet octets, are.text_is)

-- what such a line ends in
abbrev pub cut_end : List ℕ
cut_end = codes " ; unexpected end of input"

cut_front : (text r s octets : List ℕ) → (is : IsCutLine text octets) → text ≡ codes "; \\# " ++ r → r ≡ s ++ cut_end → is.digits ++ is.pairs ≡ s
cut_front text r s octets is e f =
    append_cancel_right (is.digits ++ is.pairs) s cut_end (append_assoc is.digits is.pairs cut_end ∙ (append_cancel_left (codes "; \\# ") (is.digits ++ (is.pairs ++ cut_end)) r (sym is.text_is ∙ e) ∙ f))

cut_parts : (text r s d p octets : List ℕ) → (is : IsCutLine text octets) → text ≡ codes "; \\# " ++ r → r ≡ s ++ cut_end → s ≡ d ++ (32 ∷ p) → Without 32 d → (is.digits ≡ d) × (is.pairs ≡ 32 ∷ p)
cut_parts text r s d p octets is e f g lack =
    let first = first_space is.pairs octets is.cut.some is.pairs_are in
    let both = parted_once 32 is.digits first.0 d p (number_lacks 32 65536 is.digits is.count refl is.count_is) lack (ap (λ z. is.digits ++ z) (sym first.1) ∙ (cut_front text r s octets is e f ∙ g)) in
    (both.0, first.1 ∙ ap (λ z. 32 ∷ z) both.1)

pub no_cut_word : (text octets : List ℕ) → ((r : List ℕ) → text ≡ codes "; \\# " ++ r → ⊥) → IsCutLine text octets → ⊥
no_cut_word text octets never is = never (is.digits ++ (is.pairs ++ cut_end)) is.text_is

pub no_cut_end : (text r octets : List ℕ) → text ≡ codes "; \\# " ++ r → ((s : List ℕ) → r ≡ s ++ cut_end → ⊥) → IsCutLine text octets → ⊥
no_cut_end text r octets e never is =
    never (is.digits ++ is.pairs) (sym (append_cancel_left (codes "; \\# ") (is.digits ++ (is.pairs ++ cut_end)) r (sym is.text_is ∙ e)) ∙ sym (append_assoc is.digits is.pairs cut_end))

pub no_cut_space : (text r s octets : List ℕ) → text ≡ codes "; \\# " ++ r → r ≡ s ++ cut_end → Without 32 s → IsCutLine text octets → ⊥
no_cut_space text r s octets e f lack is =
    let first = first_space is.pairs octets is.cut.some is.pairs_are in
    not_without 32 is.digits first.0 s (sym (cut_front text r s octets is e f) ∙ ap (λ z. is.digits ++ z) first.1) lack

pub no_cut_count : (text r s d p octets : List ℕ) → text ≡ codes "; \\# " ++ r → r ≡ s ++ cut_end → s ≡ d ++ (32 ∷ p) → Without 32 d → ((n : ℕ) → IsNumberBelow 65536 d n → ⊥) → IsCutLine text octets → ⊥
no_cut_count text r s d p octets e f g lack never is = never is.count (subst (λ w. IsNumberBelow 65536 w is.count) (cut_parts text r s d p octets is e f g lack).0 is.count_is)

drop_front : (a b : List ℕ) → drop (length a) (a ++ b) ≡ b
drop_front [] b = refl
drop_front (x ∷ a) b = drop_front a b

-- what is left after the digits
pub from_space : (s d p : List ℕ) → s ≡ d ++ (32 ∷ p) → drop (length d) s ≡ 32 ∷ p
from_space s d p g = ap (λ z. drop (length d) z) g ∙ drop_front d (32 ∷ p)

pub no_cut_pairs : (text r s d p q octets : List ℕ) → text ≡ codes "; \\# " ++ r → r ≡ s ++ cut_end → s ≡ d ++ (32 ∷ p) → Without 32 d → q ≡ drop (length d) s → ((os : List ℕ) → ArePairs q os → ⊥) → IsCutLine text octets → ⊥
no_cut_pairs text r s d p q octets e f g lack left_is never is =
    never octets (subst (λ w. ArePairs w octets) ((cut_parts text r s d p octets is e f g lack).1 ∙ (sym (from_space s d p g) ∙ sym left_is)) is.pairs_are)

pub no_cut : (text r s d p q os octets : List ℕ) (n : ℕ) → text ≡ codes "; \\# " ++ r → r ≡ s ++ cut_end → s ≡ d ++ (32 ∷ p) → Without 32 d → q ≡ drop (length d) s → IsNumberBelow 65536 d n → ArePairs q os → (IsCut os n → ⊥) → IsCutLine text octets → ⊥
no_cut text r s d p q os octets n e f g lack left_is number are never is =
    let parts = cut_parts text r s d p octets is e f g lack in
    let its : ArePairs q octets = subst (λ w. ArePairs w octets) (parts.1 ∙ (sym (from_space s d p g) ∙ sym left_is)) is.pairs_are in
    let same : octets ≡ os = pairs_once q octets os its are in
    let count : is.count ≡ n = number_once 65536 65536 d is.count n (subst (λ w. IsNumberBelow 65536 w is.count) parts.0 is.count_is) number in
    never (subst (λ z. IsCut z n) same (subst (λ k. IsCut octets k) count is.cut))

pub cut_is : (text r s d p q os : List ℕ) (n : ℕ) → text ≡ codes "; \\# " ++ r → r ≡ s ++ cut_end → s ≡ d ++ (32 ∷ p) → q ≡ drop (length d) s → IsNumberBelow 65536 d n → ArePairs q os → IsCut os n → IsCutLine text os
cut_is text r s d p q os n e f g left_is number are is_cut = record {
  digits = d;
  pairs = q;
  text_is = follows (codes "; \\# ") text r (d ++ (q ++ cut_end)) e (f ∙ (ap (λ z. z ++ cut_end) (g ∙ ap (λ z. d ++ z) (sym (from_space s d p g) ∙ sym left_is)) ∙ append_assoc d q cut_end));
  count = n;
  count_is = number;
  pairs_are = are;
  cut = is_cut;
}

-- ---- lines

pub line_of : (text old new : List ℕ) (kind : OptionLine) → AddsLine text old new kind → IsLineOf text kind
line_of text old new Whole adds = (adds.0, adds.1)
line_of text old new Cut adds = (adds.0, adds.1)
line_of text old new Other adds = λ octets is. elim is [ inl whole ↦ adds.0.0 octets whole | inr end ↦ adds.1.0 octets end ]

pub lines_of : (text old new : List ℕ) (r : Result OptionLine Stop) → IfOk r (AddsLine text old new) → IfOk r (IsLineOf text)
lines_of text old new (Ok kind) adds = line_of text old new kind adds
lines_of text old new (Err stop) adds = tt

first_once : (t l r k s : List ℕ) → IsFirstLine t l r → IsFirstLine t k s → l ≡ k
first_once t l r k s a b = elim a.text_is [
  | inl e ↦ elim b.text_is [
    | inl f ↦ (parted_once 10 l r k s a.no_feed b.no_feed (sym e ∙ f)).0
    | inr f ↦ absurd (not_without 10 l r k (sym f.0 ∙ e) b.no_feed)
  ]
  | inr e ↦ elim b.text_is [
    | inl f ↦ absurd (not_without 10 k s l (sym e.0 ∙ f) a.no_feed)
    | inr f ↦ sym e.0 ∙ f.0
  ]
]

-- What follows a line is shorter.
pub fewer : (t l r : List ℕ) → 0 < length t → IsFirstLine t l r → length r < length t
fewer t l r longer is = elim is.text_is [ inl e ↦ omega (arith, ap length e, length-append l (10 ∷ r)) | inr e ↦ omega (arith, ap length e.1) ]

-- Lines of options that were read, before what is left of a text.
abbrev pub OptionsRead : List ℕ → List ℕ → List ℕ → Type 0
OptionsRead text rest options = (more : List ℕ) → AreOptionsAhead rest more → AreOptionsAhead text (options ++ more)

pub options_none : (text options : List ℕ) → options ≡ [] → OptionsRead text text options
options_none text options is more ahead = subst (λ z. AreOptionsAhead text (z ++ more)) (sym is) ahead

pub options_more : (text rest line trimmed following old new : List ℕ) → 0 < length rest → IsFirstLine rest line following → IsTrimmed line trimmed → AddsOption trimmed old new true → OptionsRead text rest old → OptionsRead text following new
options_more text rest line trimmed following old new longer first cut_off adds before more ahead =
    subst (λ z. AreOptionsAhead text z) (sym (ap (λ z. z ++ more) adds.2 ∙ append_assoc old adds.0 more))
    (before (adds.0 ++ more) (option (record { line = line; trimmed = trimmed; more = longer; first = first; trimmed_is = cut_off; holds = adds.1 }) ahead))

pub options_cut : (text rest line trimmed following old new : List ℕ) → 0 < length rest → IsFirstLine rest line following → IsTrimmed line trimmed → AddsCut trimmed old new true → OptionsRead text rest old → AreOptionsAhead text new
options_cut text rest line trimmed following old new longer first cut_off adds before =
    subst (λ z. AreOptionsAhead text z) (sym adds.2) (before adds.0 (cut (record { line = line; trimmed = trimmed; more = longer; first = first; trimmed_is = cut_off; holds = adds.1 })))

-- a line that shows no option ends them
ends_there : (rest line trimmed following : List ℕ) → IsFirstLine rest line following → IsTrimmed line trimmed → ((octets : List ℕ) → IsOptionLine trimmed octets → ⊥) → ((octets : List ℕ) → IsCutLine trimmed octets → ⊥)
    → (octets r : List ℕ) → BeginsWithLine (λ l. IsOptionLine l octets ⊎ IsCutLine l octets) rest r → ⊥
ends_there rest line trimmed following first cut_off no_option no_end octets r begins =
    let same : begins.line ≡ line = first_once rest begins.line r line following begins.first first in
    let also : begins.trimmed ≡ trimmed = trimmed_once line begins.trimmed trimmed (subst (λ l. IsTrimmed l begins.trimmed) same begins.trimmed_is) cut_off in
    elim begins.holds [ inl is ↦ no_option octets (subst (λ z. IsOptionLine z octets) also is) | inr is ↦ no_end octets (subst (λ z. IsCutLine z octets) also is) ]

pub options_other : (text rest line trimmed following old new : List ℕ) → IsFirstLine rest line following → IsTrimmed line trimmed → AddsLine trimmed old new Other → OptionsRead text rest old → AreOptionsAhead text new
options_other text rest line trimmed following old new first cut_off adds before =
    subst (λ z. AreOptionsAhead text z) (append-nil old ∙ sym adds.0.1) (before [] (no_more (ends_there rest line trimmed following first cut_off adds.0.0 adds.1.0)))

-- The line is the last one of them, or none.
pub options_last : (text rest line trimmed following old new : List ℕ) (kind : OptionLine) → (kind ≡ Cut) ⊎ (kind ≡ Other) → 0 < length rest → IsFirstLine rest line following → IsTrimmed line trimmed → AddsLine trimmed old new kind → OptionsRead text rest old
    → AreOptionsAhead text new
options_last text rest line trimmed following old new kind (inl at) longer first cut_off adds before =
    options_cut text rest line trimmed following old new longer first cut_off (subst (λ k. AddsLine trimmed old new k) at adds) before
options_last text rest line trimmed following old new kind (inr at) longer first cut_off adds before =
    options_other text rest line trimmed following old new first cut_off (subst (λ k. AddsLine trimmed old new k) at adds) before

pub options_end : (text rest options : List ℕ) → length rest ≤ 0 → OptionsRead text rest options → AreOptionsAhead text options
options_end text rest options few before = subst (λ z. AreOptionsAhead text z) (append-nil options) (before [] (no_more (λ octets r begins. absurd (omega (arith, begins.more)))))
