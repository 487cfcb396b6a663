-- Tests of octets, by tables of 256 entries.
use Rattle.std.proofs.Common.{◌≡◌, ℕ, ◌+◌, ◌/◌, ◌%◌, ◌<◌, Bool, true, false, ◌==◌, ◌||◌, ◌&&◌, refl, sym, ap, ◌∙◌}
use mathlib.Core.Bool.{not}
use Rattle.std.proofs.lemmas.Bool.{agree_below_at, not-true, true≢false, false≢true, ne_eqb}
use Rattle.domain_rdata_text.specs.Words.{is_blank}
use Rattle.domain_rdata_text.specs.Symbols.{is_digit}
use Rattle.domain_rdata_text.specs.Names.{is_special, is_unprinted}
use Rattle.domain_rdata_text.specs.Strings.{is_mark, is_hidden}

-- whether the octet is of a word outside quotes as it stands
abbrev pub is_bare : ℕ → Bool
is_bare c = not (is_blank c || (c == 59 || ((c == 40 || c == 41) || (c == 34 || c == 92))))

pub third : (x y z : Bool) → (x || (y || z)) ≡ true → x ≡ false → y ≡ false → z ≡ true
third true y z h e f = absurd (true≢false e)
third false true z h e f = absurd (true≢false f)
third false false z h e f = h

pub second : (x y : Bool) → (not x || y) ≡ true → x ≡ true → y ≡ true
second true y h e = h
second false y h e = absurd (false≢true e)

pub not_second : (x y : Bool) → (x && y) ≡ false → x ≡ true → y ≡ false
not_second true y h e = h
not_second false y h e = absurd (false≢true e)

-- the three digits of an octet
pub high_digit : (c : ℕ) → c < 256 → is_digit (48 + c / 100) ≡ true
high_digit c h = agree_below_at (λ n. is_digit (48 + n / 100)) (λ n. true) 256 c refl h

pub middle_digit : (c : ℕ) → c < 256 → is_digit (48 + c / 10 % 10) ≡ true
middle_digit c h = agree_below_at (λ n. is_digit (48 + n / 10 % 10)) (λ n. true) 256 c refl h

pub low_digit : (c : ℕ) → c < 256 → is_digit (48 + c % 10) ≡ true
low_digit c h = agree_below_at (λ n. is_digit (48 + n % 10)) (λ n. true) 256 c refl h

pub one_digit : (d : ℕ) → d < 10 → is_digit (48 + d) ≡ true
one_digit d h = agree_below_at (λ n. is_digit (48 + n)) (λ n. true) 10 d refl h

pub digit_bare : (d : ℕ) → d < 10 → is_bare (48 + d) ≡ true
digit_bare d h = agree_below_at (λ n. is_bare (48 + n)) (λ n. true) 10 d refl h

pub digit_no_quote : (d : ℕ) → d < 10 → (48 + d == 34) ≡ false
digit_no_quote d h = agree_below_at (λ n. 48 + n == 34) (λ n. false) 10 d refl h

pub digit_no_slash : (d : ℕ) → d < 10 → (48 + d == 92) ≡ false
digit_no_slash d h = agree_below_at (λ n. 48 + n == 92) (λ n. false) 10 d refl h

pub digit_no_end : (d : ℕ) → d < 10 → (48 + d == 10) ≡ false
digit_no_end d h = agree_below_at (λ n. 48 + n == 10) (λ n. false) 10 d refl h

-- names
pub special_no_end : (c : ℕ) → c < 256 → is_special c ≡ true → (c == 10) ≡ false
special_no_end c h = not_second (is_special c) (c == 10) (agree_below_at (λ n. is_special n && n == 10) (λ n. false) 256 c refl h)

pub special_digit : (c : ℕ) → c < 256 → is_special c ≡ true → is_digit c ≡ false
special_digit c h = not_second (is_special c) (is_digit c) (agree_below_at (λ n. is_special n && is_digit n) (λ n. false) 256 c refl h)

-- an octet that is written as it is, is none with a meaning of its own and none that isn't printed
pub label_plain : (d c : ℕ) → c < 256 → (is_special d || is_unprinted d) ≡ true → is_special c ≡ false → is_unprinted c ≡ false → (c == d) ≡ false
label_plain d c h m e f = ne_eqb c d (λ same. true≢false (sym m ∙ (sym (ap (λ (x : ℕ). is_special x || is_unprinted x) same) ∙ (ap (λ (b : Bool). b || is_unprinted c) e ∙ f))))

pub label_no_slash : (c : ℕ) → c < 256 → is_special c ≡ false → is_unprinted c ≡ false → (c == 92) ≡ false
label_no_slash c h e f = not-true (c == 92) (third (is_special c) (is_unprinted c) (not (c == 92))
    (agree_below_at (λ n. is_special n || (is_unprinted n || not (n == 92))) (λ n. true) 256 c refl h) e f)

pub label_no_dot : (c : ℕ) → c < 256 → is_special c ≡ false → is_unprinted c ≡ false → (c == 46) ≡ false
label_no_dot c h e f = not-true (c == 46) (third (is_special c) (is_unprinted c) (not (c == 46))
    (agree_below_at (λ n. is_special n || (is_unprinted n || not (n == 46))) (λ n. true) 256 c refl h) e f)

pub label_no_quote : (c : ℕ) → c < 256 → is_special c ≡ false → is_unprinted c ≡ false → (c == 34) ≡ false
label_no_quote c h e f = not-true (c == 34) (third (is_special c) (is_unprinted c) (not (c == 34))
    (agree_below_at (λ n. is_special n || (is_unprinted n || not (n == 34))) (λ n. true) 256 c refl h) e f)

pub label_bare : (c : ℕ) → c < 256 → is_special c ≡ false → is_unprinted c ≡ false → is_bare c ≡ true
label_bare c h e f = third (is_special c) (is_unprinted c) (is_bare c)
    (agree_below_at (λ n. is_special n || (is_unprinted n || is_bare n)) (λ n. true) 256 c refl h) e f

-- strings
pub mark_no_end : (c : ℕ) → c < 256 → is_mark c ≡ true → (c == 10) ≡ false
mark_no_end c h = not_second (is_mark c) (c == 10) (agree_below_at (λ n. is_mark n && n == 10) (λ n. false) 256 c refl h)

pub string_no_end : (c : ℕ) → c < 256 → is_mark c ≡ false → is_hidden c ≡ false → (c == 10) ≡ false
string_no_end c h e f = not-true (c == 10) (third (is_mark c) (is_hidden c) (not (c == 10))
    (agree_below_at (λ n. is_mark n || (is_hidden n || not (n == 10))) (λ n. true) 256 c refl h) e f)

pub mark_digit : (c : ℕ) → c < 256 → is_mark c ≡ true → is_digit c ≡ false
mark_digit c h = not_second (is_mark c) (is_digit c) (agree_below_at (λ n. is_mark n && is_digit n) (λ n. false) 256 c refl h)

pub string_no_slash : (c : ℕ) → c < 256 → is_mark c ≡ false → is_hidden c ≡ false → (c == 92) ≡ false
string_no_slash c h e f = not-true (c == 92) (third (is_mark c) (is_hidden c) (not (c == 92))
    (agree_below_at (λ n. is_mark n || (is_hidden n || not (n == 92))) (λ n. true) 256 c refl h) e f)

pub string_no_quote : (c : ℕ) → c < 256 → is_mark c ≡ false → is_hidden c ≡ false → (c == 34) ≡ false
string_no_quote c h e f = not-true (c == 34) (third (is_mark c) (is_hidden c) (not (c == 34))
    (agree_below_at (λ n. is_mark n || (is_hidden n || not (n == 34))) (λ n. true) 256 c refl h) e f)
