-- Each text is read in one way.
use Rattle.std.proofs.Common.{◌≡◌, ◌≢◌, ℕ, ◌+◌, ◌/◌, ◌%◌, ◌<◌, ◌≤◌, ◌⊎◌, inl, inr, List, [], ◌∷◌, ◌++◌, length, Result, Ok, Err, refl, ap, sym, ◌∙◌, subst, arith, zero, suc, true, false, leb, length-append}
use Rattle.std.specs.List.{AllByRecursion}
use Rattle.std.proofs.lemmas.Bool.Decides.{leb_tells}
use Rattle.domain_label.specs.declared.symbol.Symbol.{Symbol}
use Rattle.domain_label.specs.declared.symbol.Symbol.TheVariants.{Char, SimpleEscape, DecimalEscape}
use Rattle.domain_label.specs.declared.symbol.SymbolCharsError.{SymbolCharsError}
use Rattle.domain_label.specs.declared.symbol.SymbolCharsError.TheVariants.{ShortInput, BadEscape}
use Rattle.domain_label.specs.Spelling.{IsDigit, IsNoDigit, IsPrintable, IsNotPrintable, number, spelling, HasSpelling, Breaks, IsBroken, ReadsSymbols, IsReadOnce}

-- what the three digits of an octet spell
pub number-digits : (n : ℕ) → n ≤ 255 → number (48 + n / 100) (48 + n / 10 % 10) (48 + n % 10) ≡ n
number-digits n h = omega arith

pub digits_same : (n m : ℕ) → n / 100 ≡ m / 100 → n / 10 % 10 ≡ m / 10 % 10 → n % 10 ≡ m % 10 → n ≡ m
digits_same n m a b c = omega arith

-- the digits of a number are its three digits
pub digits_of : (a b c : ℕ) → IsDigit a → IsDigit b → IsDigit c → (48 + number a b c / 100 ≡ a) × (48 + number a b c / 10 % 10 ≡ b) × (48 + number a b c % 10 ≡ c)
digits_of a b c p q r = (omega arith, omega arith, omega arith)

-- what tells a symbol from others that a text could begin with
abbrev pub IsTold : Symbol → Type 0
IsTold (Char c) = c ≢ 92
IsTold (SimpleEscape c) = IsNoDigit c
IsTold (DecimalEscape n) = n ≤ 255

pub told : (s : Symbol) → HasSpelling s → IsTold s
told (Char c) h = h
told (SimpleEscape c) h = h.1
told (DecimalEscape n) h = h

-- texts that begin with a symbol begin with no other
pub one_told : (s t : Symbol) (q r : List ℕ) → IsTold s → IsTold t → spelling s ++ q ≡ spelling t ++ r → (s ≡ t) × (q ≡ r)
one_told (Char c) (Char d) q r h k e = (cc, cc)
one_told (Char c) (SimpleEscape d) q r h k e = let x : c ≡ 92 = cc in absurd (h x)
one_told (Char c) (DecimalEscape n) q r h k e = let x : c ≡ 92 = cc in absurd (h x)
one_told (SimpleEscape c) (Char d) q r h k e = let x : d ≡ 92 = cc in absurd (k x)
one_told (SimpleEscape c) (SimpleEscape d) q r h k e = (cc, cc)
one_told (SimpleEscape c) (DecimalEscape n) q r h k e = let x : c ≡ 48 + n / 100 = cc in absurd (grind arith)
one_told (DecimalEscape n) (Char d) q r h k e = let x : d ≡ 92 = cc in absurd (k x)
one_told (DecimalEscape n) (SimpleEscape d) q r h k e = let x : d ≡ 48 + n / 100 = cc in absurd (grind arith)
one_told (DecimalEscape n) (DecimalEscape m) q r h k e =
    let a : 48 + n / 100 ≡ 48 + m / 100 = cc in
    let b : 48 + n / 10 % 10 ≡ 48 + m / 10 % 10 = cc in
    let c : 48 + n % 10 ≡ 48 + m % 10 = cc in
    let same : n ≡ m = digits_same n m (omega arith) (omega arith) (omega arith) in
    (ap DecimalEscape same, cc)

pub one_symbol : (s t : Symbol) (q r : List ℕ) → HasSpelling s → HasSpelling t → spelling s ++ q ≡ spelling t ++ r → (s ≡ t) × (q ≡ r)
one_symbol s t q r h k e = one_told s t q r (told s h) (told t k) e

-- neither a symbol nor a broken escape is nothing
pub none_spelled : (s : Symbol) (cs rest : List ℕ) → cs ≡ [] → cs ≡ spelling s ++ rest → ⊥
none_spelled (Char c) cs rest e h = cc
none_spelled (SimpleEscape c) cs rest e h = cc
none_spelled (DecimalEscape c) cs rest e h = cc

pub none_broken : (cs : List ℕ) (e : SymbolCharsError) → cs ≡ [] → IsBroken cs e → ⊥
none_broken cs ShortInput e h = let p : cs ≡ 92 ∷ h.0 = h.1 in cc
none_broken cs BadEscape e h = let p : cs ≡ 92 ∷ (h.0 ++ h.1 ∷ h.2) = h.3 in cc

no_digit : (c d : ℕ) → c ≡ d → IsDigit c → IsNoDigit d → ⊥
no_digit c d e h k = grind arith

not_printable : (c d : ℕ) → c ≡ d → IsPrintable c → IsNotPrintable d → ⊥
not_printable c d e h k = grind arith

-- a text that ends inside an escape has no symbol there
simple_or_cut : (c : ℕ) (rest ds : List ℕ) → IsNoDigit c → ds ≡ c ∷ rest → AllByRecursion IsDigit ds → ⊥
simple_or_cut c rest [] h e all = cc
simple_or_cut c rest (d ∷ ds) h e all = no_digit d c (cc) all.0 h

decimal_or_cut : (a b c : ℕ) (rest ds : List ℕ) → ds ≡ a ∷ b ∷ c ∷ rest → length ds < 3 → ⊥
decimal_or_cut a b c rest ds e h = let k : length ds ≡ length (a ∷ b ∷ c ∷ rest) = ap length e in omega arith

-- nor has one whose escape is broken
simple_or_bad : (c : ℕ) (rest ds : List ℕ) (d : ℕ) (more : List ℕ) → IsPrintable c → IsNoDigit c → ds ++ d ∷ more ≡ c ∷ rest → AllByRecursion IsDigit ds → Breaks ds d → ⊥
simple_or_bad c rest [] d more p h e all b = not_printable c d (cc) p b.1
simple_or_bad c rest (x ∷ ds) d more p h e all b = no_digit x c (cc) all.0 h

decimal_or_bad : (n : ℕ) (rest ds : List ℕ) (d : ℕ) (more : List ℕ) → n ≤ 255 → ds ++ d ∷ more ≡ (48 + n / 100) ∷ (48 + n / 10 % 10) ∷ (48 + n % 10) ∷ rest → AllByRecursion IsDigit ds → Breaks ds d → ⊥
decimal_or_bad n rest [] d more h e all b = let k : 48 + n / 100 ≡ d = cc in no_digit (48 + n / 100) d k (omega arith, omega arith) b.0
decimal_or_bad n rest (x ∷ []) d more h e all b = let k : 48 + n / 10 % 10 ≡ d = cc in no_digit (48 + n / 10 % 10) d k (omega arith, omega arith) b
decimal_or_bad n rest (x ∷ y ∷ []) d more h e all (inl b) = let k : 48 + n % 10 ≡ d = cc in no_digit (48 + n % 10) d k (omega arith, omega arith) b
decimal_or_bad n rest (x ∷ y ∷ []) d more h e all (inr b) =
    let i : x ≡ 48 + n / 100 = cc in
    let j : y ≡ 48 + n / 10 % 10 = cc in
    let k : d ≡ 48 + n % 10 = cc in
    let over : 255 < number x y d = b.1 in
    absurd (omega arith)
decimal_or_bad n rest (x ∷ y ∷ z ∷ ds) d more h e all b = b

pub whole_or_broken : (s : Symbol) (cs rest : List ℕ) (e : SymbolCharsError) → HasSpelling s → cs ≡ spelling s ++ rest → IsBroken cs e → ⊥
whole_or_broken (Char c) cs rest ShortInput h p b = let q : cs ≡ 92 ∷ b.0 = b.1 in let k : c ≡ 92 = cc in h k
whole_or_broken (Char c) cs rest BadEscape h p b = let q : cs ≡ 92 ∷ (b.0 ++ b.1 ∷ b.2) = b.3 in let k : c ≡ 92 = cc in h k
whole_or_broken (SimpleEscape c) cs rest ShortInput h p b = let q : cs ≡ 92 ∷ b.0 = b.1 in let k : b.0 ≡ c ∷ rest = cc in simple_or_cut c rest b.0 h.1 k b.3
whole_or_broken (SimpleEscape c) cs rest BadEscape h p b = let q : cs ≡ 92 ∷ (b.0 ++ b.1 ∷ b.2) = b.3 in let k : b.0 ++ b.1 ∷ b.2 ≡ c ∷ rest = cc in simple_or_bad c rest b.0 b.1 b.2 h.0 h.1 k b.4 b.5
whole_or_broken (DecimalEscape n) cs rest ShortInput h p b = let q : cs ≡ 92 ∷ b.0 = b.1 in let k : b.0 ≡ (48 + n / 100) ∷ (48 + n / 10 % 10) ∷ (48 + n % 10) ∷ rest = cc in decimal_or_cut (48 + n / 100) (48 + n / 10 % 10) (48 + n % 10) rest b.0 k b.2
whole_or_broken (DecimalEscape n) cs rest BadEscape h p b = let q : cs ≡ 92 ∷ (b.0 ++ b.1 ∷ b.2) = b.3 in let k : b.0 ++ b.1 ∷ b.2 ≡ (48 + n / 100) ∷ (48 + n / 10 % 10) ∷ (48 + n % 10) ∷ rest = cc in decimal_or_bad n rest b.0 b.1 b.2 h k b.4 b.5

-- an escape is cut or broken, not both
cut_or_bad : (ds es : List ℕ) (d : ℕ) (more : List ℕ) → ds ≡ es ++ d ∷ more → length ds < 3 → AllByRecursion IsDigit ds → Breaks es d → ⊥
cut_or_bad [] es d more e h all b = let k : length {A = ℕ} [] ≡ length (es ++ d ∷ more) = ap length e in absurd (grind (arith, length-append es (d ∷ more)))
cut_or_bad (x ∷ ds) [] d more e h all b = no_digit x d (cc) all.0 b.0
cut_or_bad (x ∷ []) (y ∷ []) d more e h all b = absurd (cc)
cut_or_bad (x ∷ z ∷ ds) (y ∷ []) d more e h all b = no_digit z d (cc) all.1.0 b
cut_or_bad (x ∷ ds) (y ∷ w ∷ []) d more e h all b = let k : length (x ∷ ds) ≡ length (y ∷ w ∷ d ∷ more) = ap length e in absurd (omega arith)
cut_or_bad (x ∷ ds) (y ∷ w ∷ v ∷ es) d more e h all b = b

cut_or_broken : (cs : List ℕ) → IsBroken cs ShortInput → IsBroken cs BadEscape → ⊥
cut_or_broken cs b d =
    let p : cs ≡ 92 ∷ b.0 = b.1 in
    let q : cs ≡ 92 ∷ (d.0 ++ d.1 ∷ d.2) = d.3 in
    let k : b.0 ≡ d.0 ++ d.1 ∷ d.2 = cc in
    cut_or_bad b.0 d.0 d.1 d.2 k b.2 b.3 d.5

pub one_fault : (cs : List ℕ) (e f : SymbolCharsError) → IsBroken cs e → IsBroken cs f → e ≡ f
one_fault cs ShortInput ShortInput b d = refl
one_fault cs ShortInput BadEscape b d = absurd (cut_or_broken cs b d)
one_fault cs BadEscape ShortInput b d = absurd (cut_or_broken cs d b)
one_fault cs BadEscape BadEscape b d = refl

-- texts are read in no two ways
pub same_reading : (items others : List (Result Symbol SymbolCharsError)) (cs : List ℕ) → ReadsSymbols cs items → ReadsSymbols cs others → others ≡ items
same_reading [] [] cs r o = refl
same_reading [] (Ok t ∷ os) cs r o = absurd (none_spelled t cs o.1.0 r o.1.1)
same_reading [] (Err f ∷ os) cs r o = absurd (none_broken cs f r o.0)
same_reading (Ok s ∷ is) [] cs r o = absurd (none_spelled s cs r.1.0 o r.1.1)
same_reading (Ok s ∷ is) (Ok t ∷ os) cs r o =
    let same = one_symbol t s o.1.0 r.1.0 o.0 r.0 (sym o.1.1 ∙ r.1.1) in
    let more : os ≡ is = same_reading is os r.1.0 r.1.2 (subst (λ (q : List ℕ). ReadsSymbols q os) same.1 o.1.2) in
    ap (λ (x : Symbol). Ok x ∷ os) same.0 ∙ ap (λ (x : List (Result Symbol SymbolCharsError)). Ok s ∷ x) more
same_reading (Ok s ∷ is) (Err f ∷ os) cs r o = absurd (whole_or_broken s cs r.1.0 f r.0 r.1.1 o.0)
same_reading (Err e ∷ is) [] cs r o = absurd (none_broken cs e o r.0)
same_reading (Err e ∷ is) (Ok t ∷ os) cs r o = absurd (whole_or_broken t cs o.1.0 e o.0 o.1.1 r.0)
same_reading (Err e ∷ is) (Err f ∷ os) cs r o = ap (λ (x : SymbolCharsError). Err x ∷ os) (one_fault cs f e o.0 r.0) ∙ ap (λ (x : List (Result Symbol SymbolCharsError)). Err e ∷ x) (o.1 ∙ sym r.1)

-- each is read
digit_or_not : (c : ℕ) → IsDigit c ⊎ IsNoDigit c
digit_or_not c = at (leb_tells 48 c) (leb_tells c 57)
  where
    at : ((leb 48 c ≡ true) × (48 ≤ c)) ⊎ ((leb 48 c ≡ false) × (c < 48)) → ((leb c 57 ≡ true) × (c ≤ 57)) ⊎ ((leb c 57 ≡ false) × (57 < c)) → IsDigit c ⊎ IsNoDigit c
    at (inl a) (inl b) = inl (a.1, b.1)
    at (inl a) (inr b) = inr (inr b.1)
    at (inr a) b = inr (inl a.1)

printable_or_not : (c : ℕ) → IsPrintable c ⊎ IsNotPrintable c
printable_or_not c = at (leb_tells 32 c) (leb_tells c 126)
  where
    at : ((leb 32 c ≡ true) × (32 ≤ c)) ⊎ ((leb 32 c ≡ false) × (c < 32)) → ((leb c 126 ≡ true) × (c ≤ 126)) ⊎ ((leb c 126 ≡ false) × (126 < c)) → IsPrintable c ⊎ IsNotPrintable c
    at (inl a) (inl b) = inl (a.1, b.1)
    at (inl a) (inr b) = inr (inr b.1)
    at (inr a) b = inr (inl a.1)

pub backslash_or_not : (c : ℕ) → (c ≡ 92) ⊎ (c ≢ 92)
backslash_or_not c = at (leb_tells c 92) (leb_tells 92 c)
  where
    at : ((leb c 92 ≡ true) × (c ≤ 92)) ⊎ ((leb c 92 ≡ false) × (92 < c)) → ((leb 92 c ≡ true) × (92 ≤ c)) ⊎ ((leb 92 c ≡ false) × (c < 92)) → (c ≡ 92) ⊎ (c ≢ 92)
    at (inl a) (inl b) = inl (omega (arith, a.1, b.1))
    at (inl a) (inr b) = inr (omega (arith, b.1))
    at (inr a) b = inr (omega (arith, a.1))

within_255 : (n : ℕ) → (n ≤ 255) ⊎ (255 < n)
within_255 n = at (leb_tells n 255)
  where
    at : ((leb n 255 ≡ true) × (n ≤ 255)) ⊎ ((leb n 255 ≡ false) × (255 < n)) → (n ≤ 255) ⊎ (255 < n)
    at (inl a) = inl a.1
    at (inr a) = inr a.1

-- what the characters after a backslash make
abbrev pub SymbolOrFault : List ℕ → Type 0
SymbolOrFault cs = ((s : Symbol) × (rest : List ℕ) × HasSpelling s × (cs ≡ spelling s ++ rest)) ⊎ ((e : SymbolCharsError) × IsBroken cs e)

third : (a b : ℕ) (cs : List ℕ) → IsDigit a → IsDigit b → SymbolOrFault (92 ∷ a ∷ b ∷ cs)
third a b [] d f = inr (ShortInput, (a ∷ b ∷ [], refl, omega arith, (d, (f, tt))))
third a b (c ∷ cs) d f = at (digit_or_not c)
  where
    decide : IsDigit c → (number a b c ≤ 255) ⊎ (255 < number a b c) → SymbolOrFault (92 ∷ a ∷ b ∷ c ∷ cs)
    decide g (inl small) =
        let e = digits_of a b c d f g in
        inl (
          DecimalEscape (number a b c),
          cs,
          small,
          ap (λ (x : ℕ). 92 ∷ x ∷ b ∷ c ∷ cs) (sym e.0) ∙ ap (λ (x : ℕ). 92 ∷ (48 + number a b c / 100) ∷ x ∷ c ∷ cs) (sym e.1) ∙ ap (λ (x : ℕ). 92 ∷ (48 + number a b c / 100) ∷ (48 + number a b c / 10 % 10) ∷ x ∷ cs) (sym e.2),
        )
    decide g (inr over) = inr (BadEscape, (a ∷ b ∷ [], c, cs, refl, (d, (f, tt)), inr (g, over)))

    at : IsDigit c ⊎ IsNoDigit c → SymbolOrFault (92 ∷ a ∷ b ∷ c ∷ cs)
    at (inl g) = decide g (within_255 (number a b c))
    at (inr n) = inr (BadEscape, (a ∷ b ∷ [], c, cs, refl, (d, (f, tt)), inl n))

second : (a : ℕ) (cs : List ℕ) → IsDigit a → SymbolOrFault (92 ∷ a ∷ cs)
second a [] d = inr (ShortInput, (a ∷ [], refl, omega arith, (d, tt)))
second a (b ∷ cs) d = at (digit_or_not b)
  where
    at : IsDigit b ⊎ IsNoDigit b → SymbolOrFault (92 ∷ a ∷ b ∷ cs)
    at (inl f) = third a b cs d f
    at (inr n) = inr (BadEscape, (a ∷ [], b, cs, refl, (d, tt), n))

after : (cs : List ℕ) → SymbolOrFault (92 ∷ cs)
after [] = inr (ShortInput, ([], refl, omega arith, tt))
after (a ∷ cs) = at (digit_or_not a) (printable_or_not a)
  where
    at : IsDigit a ⊎ IsNoDigit a → IsPrintable a ⊎ IsNotPrintable a → SymbolOrFault (92 ∷ a ∷ cs)
    at (inl d) p = second a cs d
    at (inr n) (inl p) = inl (SimpleEscape a, cs, (p, n), refl)
    at (inr n) (inr p) = inr (BadEscape, ([], a, cs, refl, tt, (n, p)))

pub first : (c : ℕ) (cs : List ℕ) → SymbolOrFault (c ∷ cs)
first c cs = at (backslash_or_not c)
  where
    at : (c ≡ 92) ⊎ (c ≢ 92) → SymbolOrFault (c ∷ cs)
    at (inl e) = subst (λ (x : ℕ). SymbolOrFault (x ∷ cs)) (sym e) (after cs)
    at (inr n) = inl (Char c, cs, n, refl)

shorter : (s : Symbol) (cs rest : List ℕ) → cs ≡ spelling s ++ rest → length rest < length cs
shorter (Char c) cs rest e = let k : length cs ≡ length (c ∷ rest) = ap length e in omega arith
shorter (SimpleEscape c) cs rest e = let k : length cs ≡ length (92 ∷ c ∷ rest) = ap length e in omega arith
shorter (DecimalEscape n) cs rest e = let k : length cs ≡ length (92 ∷ (48 + n / 100) ∷ (48 + n / 10 % 10) ∷ (48 + n % 10) ∷ rest) = ap length e in omega arith

reading : (n : ℕ) (cs : List ℕ) → length cs ≤ n → (items : List (Result Symbol SymbolCharsError)) × ReadsSymbols cs items
reading n [] h = ([], refl)
reading zero (c ∷ cs) h = absurd (omega arith)
reading (suc n) (c ∷ cs) h = at (first c cs) (λ rest k. reading n rest k)
  where
    at : SymbolOrFault (c ∷ cs) → ((rest : List ℕ) → length rest ≤ n → (items : List (Result Symbol SymbolCharsError)) × ReadsSymbols rest items) → (items : List (Result Symbol SymbolCharsError)) × ReadsSymbols (c ∷ cs) items
    at (inl f) more =
        let k = shorter f.0 (c ∷ cs) f.1 f.3 in
        let r = more f.1 (omega (arith, k)) in
        (Ok f.0 ∷ r.0, (f.2, (f.1, f.3, r.1)))
    at (inr f) more = (Err f.0 ∷ [], (f.1, refl))

pub read_once : (cs : List ℕ) → IsReadOnce cs
read_once cs =
    let r = reading (length cs) cs (omega arith) in
    (r.0, r.1, λ others o. same_reading r.0 others cs r.1 o)
