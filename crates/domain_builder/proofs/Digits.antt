-- Labels of digits.
use Rattle.std.proofs.Common.{leb, inl, inr, ◌⊎◌, ◌≡◌, ℕ, ◌+◌, ◌/◌, ◌%◌, ◌<◌, ◌≤◌, true, false, [], ◌∷◌, length, Result, Ok, Err, ◌==◌, refl, ap, arith}
use Rattle.std.proofs.lemmas.Bool.{lt-ltb, ne_eqb}
use Rattle.std.proofs.lemmas.Bool.Decides.{leb_tells}
use Rattle.std.specs.Fmt.{decimal, digits}
use Rattle.domain_builder.specs.Pushing.{LabelThenName, NameAlone}
use Rattle.domain_builder.specs.declared.push_error.PushError.{PushError}
use Rattle.domain_builder.specs.declared.push_error.PushError.TheVariants.{LongLabel, LongName, ShortBuf}

-- the decimal digits of an octet
pub one_digit : (n : ℕ) → n < 10 → decimal n ≡ (48 + n % 10) ∷ []
unfolding digits
one_digit n h =
    let a : n / 10 ≡ 0 = omega arith in
    let d : n % 10 < 10 = omega arith in
    rw (a, lt-ltb (n % 10) 10 d) refl

pub two_digits : (n : ℕ) → 10 ≤ n → n < 100 → decimal n ≡ (48 + n / 10 % 10) ∷ (48 + n % 10) ∷ []
unfolding digits
two_digits n l h =
    let a : (n / 10 == 0) ≡ false = ne_eqb (n / 10) 0 (omega arith) in
    let b : n / 10 / 10 ≡ 0 = omega arith in
    let d : n % 10 < 10 = omega arith in
    let e : n / 10 % 10 < 10 = omega arith in
    rw (a, b, lt-ltb (n % 10) 10 d, lt-ltb (n / 10 % 10) 10 e) refl

pub three_digits : (n : ℕ) → 100 ≤ n → n < 256 → decimal n ≡ (48 + n / 100) ∷ (48 + n / 10 % 10) ∷ (48 + n % 10) ∷ []
unfolding digits
three_digits n l h =
    let a : (n / 10 == 0) ≡ false = ne_eqb (n / 10) 0 (omega arith) in
    let b : (n / 10 / 10 == 0) ≡ false = ne_eqb (n / 10 / 10) 0 (omega arith) in
    let c : n / 10 / 10 / 10 ≡ 0 = omega arith in
    let d : n % 10 < 10 = omega arith in
    let e : n / 10 % 10 < 10 = omega arith in
    let f : n / 10 / 10 % 10 ≡ n / 100 = omega arith in
    let i : n / 100 < 10 = omega arith in
    rw (a, b, c, f, lt-ltb (n % 10) 10 d, lt-ltb (n / 10 % 10) 10 e, lt-ltb (n / 100) 10 i) refl

-- a label that can't be long
pub name_alone : (label whole room : ℕ) (r : Result (Unit {0}) PushError) → label ≤ 63 → LabelThenName label whole room r → NameAlone whole room r
name_alone label whole room (Ok u) h a = a.1
name_alone label whole room (Err LongLabel) h a = absurd (omega (arith, h, a))
name_alone label whole room (Err LongName) h a = a.1
name_alone label whole room (Err ShortBuf) h a = (a.1, a.2)

-- an octet has one to three digits
pub decimal_short : (n : ℕ) → n < 256 → (0 < length (decimal n)) × (length (decimal n) ≤ 3)
decimal_short n h = at (leb_tells 10 n) (leb_tells 100 n)
  where
    at : ((leb 10 n ≡ true) × (10 ≤ n)) ⊎ ((leb 10 n ≡ false) × (n < 10)) → ((leb 100 n ≡ true) × (100 ≤ n)) ⊎ ((leb 100 n ≡ false) × (n < 100)) → (0 < length (decimal n)) × (length (decimal n) ≤ 3)
    at (inr a) b = let e : length (decimal n) ≡ 1 = ap length (one_digit n a.1) in (omega (arith, e), omega (arith, e))
    at (inl a) (inr b) = let e : length (decimal n) ≡ 2 = ap length (two_digits n a.1 b.1) in (omega (arith, e), omega (arith, e))
    at (inl a) (inl b) = let e : length (decimal n) ≡ 3 = ap length (three_digits n b.1 h) in (omega (arith, e), omega (arith, e))

-- a label for which there is room isn't refused
pub never_alone : (whole room : ℕ) (e : PushError) → whole ≤ 254 → whole ≤ room → NameAlone whole room (Err e) → ⊥
never_alone whole room LongLabel n r a = a
never_alone whole room LongName n r a = omega (arith, n, a)
never_alone whole room ShortBuf n r a = omega (arith, r, a.1)

pub never_label : (label whole room : ℕ) (e : PushError) → label ≤ 63 → whole ≤ 254 → whole ≤ room → LabelThenName label whole room (Err e) → ⊥
never_label label whole room LongLabel l n r a = omega (arith, l, a)
never_label label whole room LongName l n r a = omega (arith, n, a.1)
never_label label whole room ShortBuf l n r a = omega (arith, r, a.2)
