-- Octets in base32hex are read back.
use Rattle.std.proofs.Common.{◌≡◌, ◌∙◌, ℕ, ◌+◌, ◌*◌, ◌/◌, ◌%◌, ◌<◌, ◌≤◌, true, false, ◌==◌, cond, nat_le, List, [], ◌∷◌, ◌++◌, length, Some, None, refl, sym, ap, append_assoc, append-nil, arith}
use Rattle.std.proofs.lemmas.Bool.{agree_below_at, cond-true, eq-eqb, eqb-true, le-leb}
use Rattle.domain_rdata_text.specs.declared.base32.High.{High}
use Rattle.domain_rdata_text.specs.declared.base32.High.TheVariants as highs
use Rattle.domain_rdata_text.specs.declared.base32.Low.{Low}
use Rattle.domain_rdata_text.specs.declared.base32.Low.TheVariants as lows
use Rattle.domain_rdata_text.specs.declared.words.Mode.TheVariants.{Bare}
use Rattle.domain_rdata_text.specs.Base32.{base32_digit, base32_rest, base32_text, is_base32, base32_value, with_digit, high_after, base32_from, read_base32}
use Rattle.domain_rdata_text.specs.Laws.{AreOctets}
use Rattle.domain_rdata_text.specs.Strings.{only_short}
use Rattle.domain_rdata_text.proofs.Splitting.{Stays, stays_nil, stays_append, bare_one}
use Rattle.domain_rdata_text.proofs.Tables.{is_bare}

-- ---- digits
digit_is : (v : ℕ) → v < 32 → is_base32 (base32_digit v) ≡ true
digit_is v h = agree_below_at (λ n. is_base32 (base32_digit n)) (λ n. true) 32 v refl h

digit_value : (v : ℕ) → v < 32 → base32_value (base32_digit v) ≡ v
digit_value v h = eqb-true (base32_value (base32_digit v)) v (agree_below_at (λ n. base32_value (base32_digit n) == n) (λ n. true) 32 v refl h)

digit_bare : (v : ℕ) → v < 32 → is_bare (base32_digit v) ≡ true
digit_bare v h = agree_below_at (λ n. is_bare (base32_digit n)) (λ n. true) 32 v refl h

pub digit_no_slash : (v : ℕ) → v < 32 → (base32_digit v == 92) ≡ false
digit_no_slash v h = agree_below_at (λ n. base32_digit n == 92) (λ n. false) 32 v refl h

-- a digit is read as its number
digit_taken : (made : List ℕ) (h : High) (v : ℕ) → v < 32 → (rest : List ℕ) → base32_from made h (base32_digit v ∷ rest) ≡ base32_from (with_digit made h v) (high_after h v) rest
digit_taken made h v low rest =
    let c = base32_digit v in
    cond-true (is_base32 c) (base32_from (with_digit made h (base32_value c)) (high_after h (base32_value c)) rest) None (digit_is v low)
    ∙ ap (λ (x : ℕ). base32_from (with_digit made h x) (high_after h x) rest) (digit_value v low)

-- at the end no bit that is a one is left
all_read : (made : List ℕ) (b x c : ℕ) → b ≡ 0 → x ≡ c → cond (b == 0) (Some (made ++ x ∷ [])) None ≡ Some (made ++ c ∷ [])
all_read made b x c none same = cond-true (b == 0) (Some (made ++ x ∷ [])) None (eq-eqb b 0 none) ∙ ap (λ (y : ℕ). Some (made ++ y ∷ [])) same

-- ---- octets
-- How much of an octet is shown: all; or all but so many low bits, and the others are read.
data Phase : Type 0 where
  whole : Phase
  three : Phase
  one : Phase
  four : Phase
  two : Phase

abbrev low_at : Phase → ℕ → Low
low_at whole c = lows.Whole
low_at three c = lows.Three (c % 8)
low_at one c = lows.One (c % 2)
low_at four c = lows.Four (c % 16)
low_at two c = lows.Two (c % 4)

abbrev high_at : Phase → ℕ → High
high_at whole c = highs.Whole
high_at three c = highs.Five (c / 8)
high_at one c = highs.Seven (c / 2)
high_at four c = highs.Four (c / 16)
high_at two c = highs.Six (c / 4)

-- the octets that are still to be read
abbrev left_at : Phase → ℕ → List ℕ → List ℕ
left_at whole c os = os
left_at three c os = c ∷ os
left_at one c os = c ∷ os
left_at four c os = c ∷ os
left_at two c os = c ∷ os

rest_back : (p : Phase) (c : ℕ) → c < 256 → (os : List ℕ) → AreOctets os → (made : List ℕ) → base32_from made (high_at p c) (base32_rest (low_at p c) os) ≡ Some (made ++ left_at p c os)
rest_back whole c h [] b made = ap Some (sym (append-nil made))
rest_back whole c h (d ∷ os) b made =
    digit_taken made highs.Whole (d / 8) (omega (arith, b.0)) (base32_rest (lows.Three (d % 8)) os)
    ∙ rest_back three d b.0 os b.1 made
rest_back three c h [] b made =
    let v = c % 8 * 4 in
    digit_taken made (highs.Five (c / 8)) v (omega arith) []
    ∙ all_read made (v % 4) (c / 8 * 8 + v / 4) c (omega arith) (omega arith)
rest_back three c h (d ∷ os) b made =
    let v = c % 8 * 4 + d / 64 in
    let w = d / 2 % 32 in
    let x = c / 8 * 8 + v / 4 in
    let rest = base32_rest (lows.One (d % 2)) os in
    let is : x ≡ c = omega (arith, b.0) in
    let bits : v % 4 * 32 + w ≡ d / 2 = omega (arith, b.0) in
    digit_taken made (highs.Five (c / 8)) v (omega (arith, b.0)) (base32_digit w ∷ rest)
    ∙ (digit_taken (made ++ x ∷ []) (highs.Two (v % 4)) w (omega arith) rest
    ∙ (ap (λ (y : ℕ). base32_from (made ++ y ∷ []) (highs.Seven (v % 4 * 32 + w)) rest) is
    ∙ (ap (λ (y : ℕ). base32_from (made ++ c ∷ []) (highs.Seven y) rest) bits
    ∙ (rest_back one d b.0 os b.1 (made ++ c ∷ []) ∙ ap Some (append_assoc made (c ∷ []) (d ∷ os))))))
rest_back one c h [] b made =
    let v = c % 2 * 16 in
    digit_taken made (highs.Seven (c / 2)) v (omega arith) []
    ∙ all_read made (v % 16) (c / 2 * 2 + v / 16) c (omega arith) (omega arith)
rest_back one c h (d ∷ os) b made =
    let v = c % 2 * 16 + d / 16 in
    let x = c / 2 * 2 + v / 16 in
    let rest = base32_rest (lows.Four (d % 16)) os in
    let is : x ≡ c = omega (arith, b.0) in
    let bits : v % 16 ≡ d / 16 = omega (arith, b.0) in
    digit_taken made (highs.Seven (c / 2)) v (omega (arith, b.0)) rest
    ∙ (ap (λ (y : ℕ). base32_from (made ++ y ∷ []) (highs.Four (v % 16)) rest) is
    ∙ (ap (λ (y : ℕ). base32_from (made ++ c ∷ []) (highs.Four y) rest) bits
    ∙ (rest_back four d b.0 os b.1 (made ++ c ∷ []) ∙ ap Some (append_assoc made (c ∷ []) (d ∷ os)))))
rest_back four c h [] b made =
    let v = c % 16 * 2 in
    digit_taken made (highs.Four (c / 16)) v (omega arith) []
    ∙ all_read made (v % 2) (c / 16 * 16 + v / 2) c (omega arith) (omega arith)
rest_back four c h (d ∷ os) b made =
    let v = c % 16 * 2 + d / 128 in
    let w = d / 4 % 32 in
    let x = c / 16 * 16 + v / 2 in
    let rest = base32_rest (lows.Two (d % 4)) os in
    let is : x ≡ c = omega (arith, b.0) in
    let bits : v % 2 * 32 + w ≡ d / 4 = omega (arith, b.0) in
    digit_taken made (highs.Four (c / 16)) v (omega (arith, b.0)) (base32_digit w ∷ rest)
    ∙ (digit_taken (made ++ x ∷ []) (highs.One (v % 2)) w (omega arith) rest
    ∙ (ap (λ (y : ℕ). base32_from (made ++ y ∷ []) (highs.Six (v % 2 * 32 + w)) rest) is
    ∙ (ap (λ (y : ℕ). base32_from (made ++ c ∷ []) (highs.Six y) rest) bits
    ∙ (rest_back two d b.0 os b.1 (made ++ c ∷ []) ∙ ap Some (append_assoc made (c ∷ []) (d ∷ os))))))
rest_back two c h [] b made =
    let v = c % 4 * 8 in
    digit_taken made (highs.Six (c / 4)) v (omega arith) []
    ∙ all_read made (v % 8) (c / 4 * 4 + v / 8) c (omega arith) (omega arith)
rest_back two c h (d ∷ os) b made =
    let v = c % 4 * 8 + d / 32 in
    let w = d % 32 in
    let x = c / 4 * 4 + v / 8 in
    let y = v % 8 * 32 + w in
    let rest = base32_rest lows.Whole os in
    let is : x ≡ c = omega (arith, b.0) in
    let also : y ≡ d = omega (arith, b.0) in
    digit_taken made (highs.Six (c / 4)) v (omega (arith, b.0)) (base32_digit w ∷ rest)
    ∙ (digit_taken (made ++ x ∷ []) (highs.Three (v % 8)) w (omega arith) rest
    ∙ (ap (λ (z : ℕ). base32_from ((made ++ z ∷ []) ++ y ∷ []) highs.Whole rest) is
    ∙ (ap (λ (z : ℕ). base32_from ((made ++ c ∷ []) ++ z ∷ []) highs.Whole rest) also
    ∙ (rest_back whole d b.0 os b.1 ((made ++ c ∷ []) ++ d ∷ [])
    ∙ ap Some (append_assoc (made ++ c ∷ []) (d ∷ []) os ∙ append_assoc made (c ∷ []) (d ∷ os))))))

pub base32_back : (c : ℕ) (os : List ℕ) → length (c ∷ os) ≤ 255 → AreOctets (c ∷ os) → read_base32 (base32_text (c ∷ os)) ≡ Some (c ∷ os)
base32_back c os short b =
    ap only_short (rest_back whole c b.0 (c ∷ os) b [])
    ∙ cond-true (nat_le (length (c ∷ os)) 255) (Some (c ∷ os)) None (le-leb (length (c ∷ os)) 255 short)

-- ---- they are a word
one_bare : (v : ℕ) → v < 32 → Stays Bare (base32_digit v ∷ [])
one_bare v h = bare_one (base32_digit v) (digit_bare v h)

two_bare : (v w : ℕ) → v < 32 → w < 32 → Stays Bare (base32_digit v ∷ base32_digit w ∷ [])
two_bare v w hv hw = stays_append Bare (base32_digit v ∷ []) (base32_digit w ∷ []) (one_bare v hv) (one_bare w hw)

rest_bare : (p : Phase) (c : ℕ) (os : List ℕ) → AreOctets os → Stays Bare (base32_rest (low_at p c) os)
rest_bare whole c [] b = stays_nil Bare
rest_bare whole c (d ∷ os) b =
    stays_append Bare (base32_digit (d / 8) ∷ []) (base32_rest (lows.Three (d % 8)) os) (one_bare (d / 8) (omega (arith, b.0))) (rest_bare three d os b.1)
rest_bare three c [] b = one_bare (c % 8 * 4) (omega arith)
rest_bare three c (d ∷ os) b =
    let v = c % 8 * 4 + d / 64 in
    let w = d / 2 % 32 in
    stays_append Bare (base32_digit v ∷ base32_digit w ∷ []) (base32_rest (lows.One (d % 2)) os) (two_bare v w (omega (arith, b.0)) (omega arith)) (rest_bare one d os b.1)
rest_bare one c [] b = one_bare (c % 2 * 16) (omega arith)
rest_bare one c (d ∷ os) b =
    stays_append Bare (base32_digit (c % 2 * 16 + d / 16) ∷ []) (base32_rest (lows.Four (d % 16)) os) (one_bare (c % 2 * 16 + d / 16) (omega (arith, b.0))) (rest_bare four d os b.1)
rest_bare four c [] b = one_bare (c % 16 * 2) (omega arith)
rest_bare four c (d ∷ os) b =
    let v = c % 16 * 2 + d / 128 in
    let w = d / 4 % 32 in
    stays_append Bare (base32_digit v ∷ base32_digit w ∷ []) (base32_rest (lows.Two (d % 4)) os) (two_bare v w (omega (arith, b.0)) (omega arith)) (rest_bare two d os b.1)
rest_bare two c [] b = one_bare (c % 4 * 8) (omega arith)
rest_bare two c (d ∷ os) b =
    let v = c % 4 * 8 + d / 32 in
    let w = d % 32 in
    stays_append Bare (base32_digit v ∷ base32_digit w ∷ []) (base32_rest lows.Whole os) (two_bare v w (omega (arith, b.0)) (omega arith)) (rest_bare whole d os b.1)

pub bare_base32 : (os : List ℕ) → AreOctets os → Stays Bare (base32_text os)
bare_base32 os b = rest_bare whole 0 os b
