-- What is shown is read as it was.
use Rattle.std.proofs.Common.{◌≡◌, ℕ, ◌+◌, ◌-◌, ◌*◌, ◌/◌, ◌%◌, ◌^◌, ◌<◌, ◌≤◌, Bool, true, false, ◌==◌, List, [], ◌∷◌, ◌++◌, cond, nat_lt, nat_le, map, length, Option, Some, None, refl, sym, ap, ◌∙◌, append_assoc, append-nil, arith}
use Rattle.std.specs.List.{AllByRecursion, flat_map}
use Rattle.std.specs.Fmt.{decimal}
use Rattle.std.proofs.lemmas.Bool.{false≢true, cond-true, cond-false, lt-ltb, le-leb}
use Rattle.std.proofs.lemmas.Fmt.{decimal_by_steps, decimal_nonempty}
use Rattle.domain_label.specs.Wire.{wire, Root}
use Rattle.domain_label.proofs.WireLaws.{wire_append}
use Rattle.domain_rdata_text.specs.declared.symbols.Symbol.{Symbol}
use Rattle.domain_rdata_text.specs.declared.symbols.Symbol.TheVariants.{Plain, Escaped}
use Rattle.domain_rdata_text.specs.declared.symbols.Part.TheVariants.{Whole, Slash, One, Two}
use Rattle.domain_rdata_text.specs.Symbols.{symbols_from, is_digit, octet_text, in_digits}
use Rattle.domain_rdata_text.specs.Names.{label_octet, label_text, name_text, is_special, is_unprinted, is_alone, is_name, parts_from, name_parts, completed, name_of_some, read_name}
use Rattle.domain_rdata_text.specs.Strings.{string_text, is_mark, is_hidden, last, quoted_from, string_of_some, only_short, read_quoted, read_string}
use Rattle.domain_rdata_text.specs.Numbers.{read_number, number_from}
use Rattle.domain_rdata_text.specs.Laws.{AreOctets}
use Rattle.domain_rdata_text.proofs.Tables.{high_digit, middle_digit, low_digit, one_digit, special_digit, label_no_slash, label_no_dot, label_no_quote, mark_digit, string_no_slash, string_no_quote}

-- the symbol that an octet is shown as
abbrev pub symbol_for : Bool → Bool → ℕ → Symbol
symbol_for true u c = Escaped c
symbol_for false true c = Escaped c
symbol_for false false c = Plain c

-- which octets take a backslash and which are in digits
pub record Tells (s u : ℕ → Bool) : Type 0 where
  pub digit : (c : ℕ) → c < 256 → s c ≡ true → is_digit c ≡ false
  pub plain : (c : ℕ) → c < 256 → s c ≡ false → u c ≡ false → (c == 92) ≡ false

digits_symbol : (c : ℕ) → c < 256 → (ss : List Symbol) (rest : List ℕ) → symbols_from ss Whole (in_digits c ++ rest) ≡ symbols_from (ss ++ Escaped c ∷ []) Whole rest
digits_symbol c h ss rest =
    let a = 48 + c / 100 in
    let b = 48 + c / 10 % 10 in
    let d = 48 + c % 10 in
    let n = (a - 48) * 10 + (b - 48) in
    let v = n * 10 + (d - 48) in
    let is : v ≡ c = omega arith in
    cond-true (is_digit a) (symbols_from ss (One (a - 48)) (b ∷ d ∷ rest)) (symbols_from (ss ++ Escaped a ∷ []) Whole (b ∷ d ∷ rest)) (high_digit c h)
    ∙ (cond-true (is_digit b) (symbols_from ss (Two n) (d ∷ rest)) None (middle_digit c h)
    ∙ (cond-true (is_digit d) (cond (nat_lt v 256) (symbols_from (ss ++ Escaped v ∷ []) Whole rest) None) None (low_digit c h)
    ∙ (cond-true (nat_lt v 256) (symbols_from (ss ++ Escaped v ∷ []) Whole rest) None (lt-ltb v 256 (omega (arith, is, h)))
    ∙ ap (λ (x : ℕ). symbols_from (ss ++ Escaped x ∷ []) Whole rest) is)))

octet_symbol : (s u : Bool) (c : ℕ) → c < 256 → (s ≡ true → is_digit c ≡ false) → (s ≡ false → u ≡ false → (c == 92) ≡ false) → (ss : List Symbol) (rest : List ℕ)
    → symbols_from ss Whole (octet_text s u c ++ rest) ≡ symbols_from (ss ++ symbol_for s u c ∷ []) Whole rest
octet_symbol true u c h j k ss rest = cond-false (is_digit c) (symbols_from ss (One (c - 48)) rest) (symbols_from (ss ++ Escaped c ∷ []) Whole rest) (j refl)
octet_symbol false true c h j k ss rest = digits_symbol c h ss rest
octet_symbol false false c h j k ss rest = cond-false (c == 92) (symbols_from ss Slash rest) (symbols_from (ss ++ Plain c ∷ []) Whole rest) (k refl refl)

pub each_symbol : (s u : ℕ → Bool) → Tells s u → (l : List ℕ) → AreOctets l → (ss : List Symbol) (rest : List ℕ)
    → symbols_from ss Whole (flat_map (λ c. octet_text (s c) (u c) c) l ++ rest) ≡ symbols_from (ss ++ map (λ c. symbol_for (s c) (u c) c) l) Whole rest
each_symbol s u t [] b ss rest = ap (λ (x : List Symbol). symbols_from x Whole rest) (sym (append-nil ss))
each_symbol s u t (c ∷ l) b ss rest =
    let x = symbol_for (s c) (u c) c in
    let more = flat_map (λ n. octet_text (s n) (u n) n) l in
    ap (λ (y : List ℕ). symbols_from ss Whole y) (append_assoc (octet_text (s c) (u c) c) more rest)
    ∙ (octet_symbol (s c) (u c) c b.0 (t.digit c b.0) (t.plain c b.0) ss (more ++ rest)
    ∙ (each_symbol s u t l b.1 (ss ++ x ∷ []) rest
    ∙ ap (λ (y : List Symbol). symbols_from y Whole rest) (append_assoc ss (x ∷ []) (map (λ n. symbol_for (s n) (u n) n) l))))

-- ---- names
abbrev label_symbol : ℕ → Symbol
label_symbol c = symbol_for (is_special c) (is_unprinted c) c

abbrev label_symbols : List ℕ → List Symbol
label_symbols l = map label_symbol l ++ Plain 46 ∷ []

abbrev name_symbols : List (List ℕ) → List Symbol
name_symbols ls = flat_map label_symbols ls

label_tells : Tells is_special is_unprinted
label_tells = record { digit = special_digit; plain = label_no_slash }

label_step : (s u : Bool) (c : ℕ) → (s ≡ false → u ≡ false → (c == 46) ≡ false) → (s ≡ false → u ≡ false → (c == 34) ≡ false) → (ls : List (List ℕ)) (o : List ℕ) (ss : List Symbol)
    → parts_from ls o (symbol_for s u c ∷ ss) ≡ parts_from ls (o ++ c ∷ []) ss
label_step true u c k j ls o ss = refl
label_step false true c k j ls o ss = refl
label_step false false c k j ls o ss =
    cond-false (c == 46) (parts_from (ls ++ o ∷ []) [] ss) (cond (c == 34) None (parts_from ls (o ++ c ∷ []) ss)) (k refl refl)
    ∙ cond-false (c == 34) None (parts_from ls (o ++ c ∷ []) ss) (j refl refl)

labels_each : (l : List ℕ) → AreOctets l → (ls : List (List ℕ)) (o : List ℕ) (ss : List Symbol) → parts_from ls o (map label_symbol l ++ ss) ≡ parts_from ls (o ++ l) ss
labels_each [] b ls o ss = ap (λ (x : List ℕ). parts_from ls x ss) (sym (append-nil o))
labels_each (c ∷ l) b ls o ss =
    label_step (is_special c) (is_unprinted c) c (label_no_dot c b.0) (label_no_quote c b.0) ls o (map label_symbol l ++ ss)
    ∙ (labels_each l b.1 ls (o ++ c ∷ []) ss ∙ ap (λ (x : List ℕ). parts_from ls x ss) (append_assoc o (c ∷ []) l))

names_symbols : (ls : List (List ℕ)) → AllByRecursion AreOctets ls → (ss : List Symbol) → symbols_from ss Whole (flat_map label_text ls) ≡ Some (ss ++ name_symbols ls)
names_symbols [] b ss = ap Some (sym (append-nil ss))
names_symbols (l ∷ ls) b ss =
    let t = flat_map label_octet l in
    let rest = flat_map label_text ls in
    let m = map label_symbol l in
    let p = Plain 46 ∷ [] in
    ap (λ (x : List ℕ). symbols_from ss Whole x) (append_assoc t (46 ∷ []) rest)
    ∙ (each_symbol is_special is_unprinted label_tells l b.0 ss (46 ∷ rest)
    ∙ (names_symbols ls b.1 ((ss ++ m) ++ p)
    ∙ ap Some (ap (λ (x : List Symbol). x ++ name_symbols ls) (append_assoc ss m p) ∙ append_assoc ss (m ++ p) (name_symbols ls))))

names_labels : (ls : List (List ℕ)) → AllByRecursion AreOctets ls → (ks : List (List ℕ)) → parts_from ks [] (name_symbols ls) ≡ Some (name_parts (ks ++ ls) [])
names_labels [] b ks = ap (λ (x : List (List ℕ)). Some (name_parts x [])) (sym (append-nil ks))
names_labels (l ∷ ls) b ks =
    let m = map label_symbol l in
    ap (λ (x : List Symbol). parts_from ks [] x) (append_assoc m (Plain 46 ∷ []) (name_symbols ls))
    ∙ (labels_each l b.0 ks [] (Plain 46 ∷ name_symbols ls)
    ∙ (names_labels ls b.1 (ks ++ l ∷ []) ∙ ap (λ (x : List (List ℕ)). Some (name_parts x [])) (append_assoc ks (l ∷ []) ls)))

not_alone : (a c : ℕ) (l : List ℕ) (ls : List (List ℕ)) → is_alone a (name_symbols ((c ∷ l) ∷ ls)) ≡ false
not_alone a c [] ls = refl
not_alone a c (d ∷ l) ls = refl

-- with any origin and without one
pub name_back : (origin : Option (List ℕ)) (ls : List (List ℕ)) → is_name ls ≡ true → AllByRecursion AreOctets ls → read_name origin (name_text ls) ≡ Some (wire (ls ++ Root))
name_back origin [] n b = refl
name_back origin ([] ∷ ls) n b = absurd (false≢true n)
name_back origin ((c ∷ l) ∷ ls) n b =
    let all = (c ∷ l) ∷ ls in
    let ss = name_symbols all in
    let whole = completed origin (parts_from [] [] ss) in
    ap (name_of_some origin) (names_symbols all b [])
    ∙ (cond-false (is_alone 64 ss) origin (cond (is_alone 46 ss) (Some (wire Root)) whole) (not_alone 64 c l ls)
    ∙ (cond-false (is_alone 46 ss) (Some (wire Root)) whole (not_alone 46 c l ls)
    ∙ (ap (completed origin) (names_labels all b [])
    ∙ (cond-true (is_name all) (Some (wire all ++ wire Root)) None n ∙ ap Some (sym (wire_append all Root))))))

-- ---- strings
abbrev string_symbol : ℕ → Symbol
string_symbol c = symbol_for (is_mark c) (is_hidden c) c

string_tells : Tells is_mark is_hidden
string_tells = record { digit = mark_digit; plain = string_no_slash }

string_step : (s u : Bool) (c : ℕ) → (s ≡ false → u ≡ false → (c == 34) ≡ false) → (o : List ℕ) (ss : List Symbol)
    → quoted_from o (symbol_for s u c ∷ ss) ≡ quoted_from (o ++ c ∷ []) ss
string_step true u c k o ss = refl
string_step false true c k o ss = refl
string_step false false c k o ss = cond-false (c == 34) (last o ss) (quoted_from (o ++ c ∷ []) ss) (k refl refl)

string_each : (l : List ℕ) → AreOctets l → (o : List ℕ) → quoted_from o (map string_symbol l ++ Plain 34 ∷ []) ≡ Some (o ++ l)
string_each [] b o = ap Some (sym (append-nil o))
string_each (c ∷ l) b o =
    string_step (is_mark c) (is_hidden c) c (string_no_quote c b.0) o (map string_symbol l ++ Plain 34 ∷ [])
    ∙ (string_each l b.1 (o ++ c ∷ []) ∙ ap Some (append_assoc o (c ∷ []) l))

pub quoted_back : (s : List ℕ) → AreOctets s → read_quoted (string_text s) ≡ Some s
quoted_back s b =
    ap string_of_some (each_symbol is_mark is_hidden string_tells s b (Plain 34 ∷ []) (34 ∷ []))
    ∙ string_each s b []

pub string_back : (s : List ℕ) → length s ≤ 255 → AreOctets s → read_string (string_text s) ≡ Some s
string_back s h b = ap only_short (quoted_back s b) ∙ cond-true (nat_le (length s) 255) (Some s) None (le-leb (length s) 255 h)

-- ---- numbers
digit_step : (limit m d : ℕ) → d < 10 → m * 10 + d < limit → (rest : List ℕ) → number_from limit m ((48 + d) ∷ rest) ≡ number_from limit (m * 10 + d) rest
digit_step limit m d low below rest =
    let v = m * 10 + (48 + d - 48) in
    let is : v ≡ m * 10 + d = omega arith in
    cond-true (is_digit (48 + d)) (cond (nat_lt v limit) (number_from limit v rest) None) None (one_digit d low)
    ∙ (cond-true (nat_lt v limit) (number_from limit v rest) None (lt-ltb v limit (omega (arith, is, below)))
    ∙ ap (λ (x : ℕ). number_from limit x rest) is)

abbrev Reads : ℕ → ℕ → List ℕ → Type 0
Reads limit n ds = n < limit → (rest : List ℕ) → number_from limit 0 (ds ++ rest) ≡ number_from limit n rest

number_one : (limit n : ℕ) → n < 10 → Reads limit n ((48 + n) ∷ [])
number_one limit n low below rest = digit_step limit 0 n low (omega (arith, below)) rest ∙ ap (λ (x : ℕ). number_from limit x rest) (omega arith)

number_more : (limit n : ℕ) (ds : List ℕ) → 10 ≤ n → Reads limit (n / 10) ds → Reads limit n (ds ++ (48 + n % 10) ∷ [])
number_more limit n ds high before below rest =
    ap (λ (x : List ℕ). number_from limit 0 x) (append_assoc ds ((48 + n % 10) ∷ []) rest)
    ∙ (before (omega (arith, below)) ((48 + n % 10) ∷ rest)
    ∙ (digit_step limit (n / 10) (n % 10) (omega arith) (omega (arith, below)) rest
    ∙ ap (λ (x : ℕ). number_from limit x rest) (omega arith)))

read_from : (limit : ℕ) (w : List ℕ) → 0 < length w → read_number limit w ≡ number_from limit 0 w
read_from limit [] h = absurd (omega (arith, h))
read_from limit (c ∷ w) h = refl

pub number_back : (limit n : ℕ) → n < limit → n < 2 ^ 64 → read_number limit (decimal n) ≡ Some n
number_back limit n below small =
    read_from limit (decimal n) (decimal_nonempty n small)
    ∙ (ap (λ (x : List ℕ). number_from limit 0 x) (sym (append-nil (decimal n)))
    ∙ decimal_by_steps (Reads limit) (number_one limit) (number_more limit) n small below [])
