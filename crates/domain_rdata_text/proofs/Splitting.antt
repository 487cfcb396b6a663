-- What is shown stays in one word.
use Rattle.std.proofs.Common.{◌≡◌, ℕ, ◌+◌, ◌-◌, ◌/◌, ◌%◌, ◌^◌, ◌<◌, Bool, true, false, ◌==◌, ◌||◌, List, [], ◌∷◌, ◌++◌, cond, length, Ok, Err, refl, sym, ap, ◌∙◌, append_assoc, append-nil, arith}
use mathlib.Core.Bool.{not}
use Rattle.std.specs.Char.{is_ascii_alphanumeric}
use Rattle.std.specs.List.{AllByRecursion, flat_map, list_all}
use Rattle.std.specs.Fmt.{decimal}
use Rattle.std.proofs.lemmas.Bool.{agree_below_at, and_parts, or_parts, not-true, true≢false, ne_eqb}
use Rattle.std.proofs.lemmas.Fmt.{decimal_by_steps}
use Rattle.domain_rdata_text.specs.declared.words.Mode.{Mode}
use Rattle.domain_rdata_text.specs.declared.words.Mode.TheVariants.{Bare, Slash, Quoted, QuotedSlash, Comment}
use Rattle.domain_rdata_text.specs.Outcome.{fault}
use Rattle.domain_rdata_text.specs.declared.error.Reason.TheVariants.{Parenthesis}
use Rattle.domain_rdata_text.specs.Words.{WordAt, word, split, split_from, is_blank, closed, place, after_bare, spaced, joined}
use Rattle.domain_rdata_text.specs.Symbols.{octet_text, in_digits}
use Rattle.domain_rdata_text.specs.Names.{label_octet, label_text, name_text, is_special, is_unprinted}
use Rattle.domain_rdata_text.specs.Strings.{quoted_octet, string_text, is_mark, is_hidden}
use Rattle.domain_rdata_text.specs.Laws.{AreOctets}
use Rattle.domain_rdata_text.proofs.Tables.{is_bare, second, digit_bare, digit_no_quote, digit_no_slash, digit_no_end, label_bare, special_no_end, mark_no_end, string_no_end, string_no_slash, string_no_quote}

-- no octet is the end of a line
abbrev pub OneLine : List ℕ → Type 0
OneLine u = AllByRecursion (λ c. (c == 10) ≡ false) u

pub one_line : (u v : List ℕ) → OneLine u → OneLine v → OneLine (u ++ v)
one_line [] v a b = b
one_line (c ∷ u) v a b = (a.0, one_line u v a.1 b)

-- all of u is of the open word, and after it the line is as before
abbrev pub OfWord : Mode → List ℕ → Type 0
OfWord m u = (n : ℕ) (ws : List WordAt) (w rest : List ℕ) → split_from n ws w m (u ++ rest) ≡ split_from n ws (w ++ u) m rest

-- the same, and no line ends in it
abbrev pub Stays : Mode → List ℕ → Type 0
Stays m u = OfWord m u × OneLine u

pub stays_nil : (m : Mode) → Stays m []
stays_nil m = ((λ n ws w rest. ap (λ (x : List ℕ). split_from n ws x m rest) (sym (append-nil w))), tt)

pub stays_append : (m : Mode) (u v : List ℕ) → Stays m u → Stays m v → Stays m (u ++ v)
stays_append m u v hu hv = (
  (λ n ws w rest.
      ap (λ (x : List ℕ). split_from n ws w m x) (append_assoc u v rest)
      ∙ (hu.0 n ws w (v ++ rest) ∙ (hv.0 n ws (w ++ u) rest ∙ ap (λ (x : List ℕ). split_from n ws x m rest) (append_assoc w u v)))),
  one_line u v hu.1 hv.1,
)

pub stays_each : (m : Mode) (f : ℕ → List ℕ) → ((c : ℕ) → c < 256 → Stays m (f c)) → (l : List ℕ) → AllByRecursion (λ c. c < 256) l → Stays m (flat_map f l)
stays_each m f k [] b = stays_nil m
stays_each m f k (c ∷ l) b = stays_append m (f c) (flat_map f l) (k c b.0) (stays_each m f k l b.1)

-- ---- outside quotes
two : {A : Type 0} (p q : Bool) (a b z : A) → p ≡ false → q ≡ false → cond p a (cond q b z) ≡ z
two true q a b z hp hq = absurd (true≢false hp)
two false true a b z hp hq = absurd (true≢false hq)
two false false a b z hp hq = refl

three : {A : Type 0} (p q r : Bool) (a b c z : A) → p ≡ false → q ≡ false → r ≡ false → cond p a (cond q b (cond r c z)) ≡ z
three true q r a b c z hp hq hr = absurd (true≢false hp)
three false true r a b c z hp hq hr = absurd (true≢false hq)
three false false true a b c z hp hq hr = absurd (true≢false hr)
three false false false a b c z hp hq hr = refl

blank_no_end : (c : ℕ) → is_blank c ≡ false → (c == 10) ≡ false
blank_no_end c h = ne_eqb c 10 (λ e. true≢false (sym (ap is_blank e) ∙ h))

bare_is_of_word : (c : ℕ) → is_bare c ≡ true → OfWord Bare (c ∷ [])
bare_is_of_word c h n ws w rest =
    let p0 = or_parts (is_blank c) (c == 59 || ((c == 40 || c == 41) || (c == 34 || c == 92))) (not-true (is_blank c || (c == 59 || ((c == 40 || c == 41) || (c == 34 || c == 92)))) h) in
    let p1 = or_parts (c == 59) ((c == 40 || c == 41) || (c == 34 || c == 92)) p0.1 in
    let p2 = or_parts (c == 40 || c == 41) (c == 34 || c == 92) p1.1 in
    let p3 = or_parts (c == 34) (c == 92) p2.1 in
    let end = place n (c ∷ rest) in
    three (is_blank c) (c == 59) (c == 40 || c == 41)
    (split_from n (closed ws w end) [] Bare rest) (split_from n (closed ws w end) [] Comment rest) (Err (fault end Parenthesis))
    (split_from n ws (w ++ c ∷ []) (after_bare c) rest) p0.0 p1.0 p2.0
    ∙ ap (λ (m : Mode). split_from n ws (w ++ c ∷ []) m rest) (two (c == 34) (c == 92) Quoted Slash Bare p3.0 p3.1)

pub bare_one : (c : ℕ) → is_bare c ≡ true → Stays Bare (c ∷ [])
bare_one c h =
    let p = or_parts (is_blank c) (c == 59 || ((c == 40 || c == 41) || (c == 34 || c == 92))) (not-true (is_blank c || (c == 59 || ((c == 40 || c == 41) || (c == 34 || c == 92)))) h) in
    (bare_is_of_word c h, (blank_no_end c p.0, tt))

pub bare_slash : (c : ℕ) → (c == 10) ≡ false → Stays Bare (92 ∷ c ∷ [])
bare_slash c h = ((λ n ws w rest. ap (λ (x : List ℕ). split_from n ws x Bare rest) (append_assoc w (92 ∷ []) (c ∷ []))), (refl, (h, tt)))

-- 48 and a number is no end of a line
no_end : (d : ℕ) → (48 + d == 10) ≡ false
no_end d = ne_eqb (48 + d) 10 (λ e. omega (arith, e))

pub bare_digits : (c : ℕ) → Stays Bare (in_digits c)
bare_digits c = stays_append Bare (92 ∷ (48 + c / 100) ∷ []) ((48 + c / 10 % 10) ∷ (48 + c % 10) ∷ []) (bare_slash (48 + c / 100) (no_end (c / 100)))
    (stays_append Bare ((48 + c / 10 % 10) ∷ []) ((48 + c % 10) ∷ []) (bare_one (48 + c / 10 % 10) (digit_bare (c / 10 % 10) (omega arith))) (bare_one (48 + c % 10) (digit_bare (c % 10) (omega arith))))

pub bare_octet : (s u : Bool) (c : ℕ) → (s ≡ true → (c == 10) ≡ false) → (s ≡ false → u ≡ false → is_bare c ≡ true) → Stays Bare (octet_text s u c)
bare_octet true u c j k = bare_slash c (j refl)
bare_octet false true c j k = bare_digits c
bare_octet false false c j k = bare_one c (k refl refl)

pub bare_label_octet : (c : ℕ) → c < 256 → Stays Bare (label_octet c)
bare_label_octet c h = bare_octet (is_special c) (is_unprinted c) c (special_no_end c h) (label_bare c h)

pub bare_label : (l : List ℕ) → AreOctets l → Stays Bare (label_text l)
bare_label l b = stays_append Bare (flat_map label_octet l) (46 ∷ []) (stays_each Bare label_octet bare_label_octet l b) (bare_one 46 refl)

pub bare_labels : (ls : List (List ℕ)) → AllByRecursion AreOctets ls → Stays Bare (flat_map label_text ls)
bare_labels [] b = stays_nil Bare
bare_labels (l ∷ ls) b = stays_append Bare (label_text l) (flat_map label_text ls) (bare_label l b.0) (bare_labels ls b.1)

pub bare_name : (ls : List (List ℕ)) → AllByRecursion AreOctets ls → Stays Bare (name_text ls)
bare_name [] b = bare_one 46 refl
bare_name (l ∷ ls) b = bare_labels (l ∷ ls) b

pub bare_number : (n : ℕ) → n < 2 ^ 64 → Stays Bare (decimal n)
bare_number n h = decimal_by_steps (λ m ds. Stays Bare ds) (λ m low. bare_one (48 + m) (digit_bare m low))
    (λ m ds high before. stays_append Bare ds ((48 + m % 10) ∷ []) before (bare_one (48 + m % 10) (digit_bare (m % 10) (omega arith)))) n h

-- ---- between quotes
pub quoted_one : (c : ℕ) → (c == 10) ≡ false → (c == 34) ≡ false → (c == 92) ≡ false → Stays Quoted (c ∷ [])
quoted_one c e h k = ((λ n ws w rest. ap (λ (m : Mode). split_from n ws (w ++ c ∷ []) m rest) (two (c == 34) (c == 92) Bare QuotedSlash Quoted h k)), (e, tt))

pub quoted_slash : (c : ℕ) → (c == 10) ≡ false → Stays Quoted (92 ∷ c ∷ [])
quoted_slash c h = ((λ n ws w rest. ap (λ (x : List ℕ). split_from n ws x Quoted rest) (append_assoc w (92 ∷ []) (c ∷ []))), (refl, (h, tt)))

quoted_digit : (d : ℕ) → d < 10 → Stays Quoted ((48 + d) ∷ [])
quoted_digit d h = quoted_one (48 + d) (digit_no_end d h) (digit_no_quote d h) (digit_no_slash d h)

pub quoted_digits : (c : ℕ) → Stays Quoted (in_digits c)
quoted_digits c = stays_append Quoted (92 ∷ (48 + c / 100) ∷ []) ((48 + c / 10 % 10) ∷ (48 + c % 10) ∷ []) (quoted_slash (48 + c / 100) (no_end (c / 100)))
    (stays_append Quoted ((48 + c / 10 % 10) ∷ []) ((48 + c % 10) ∷ []) (quoted_digit (c / 10 % 10) (omega arith)) (quoted_digit (c % 10) (omega arith)))

-- neither an octet with a meaning of its own nor one that is printed is the end of a line
pub record NoEnd (s u : Bool) (c : ℕ) : Type 0 where
  pub marked : s ≡ true → (c == 10) ≡ false
  pub printed : s ≡ false → u ≡ false → (c == 10) ≡ false

pub quoted_stays : (s u : Bool) (c : ℕ) → NoEnd s u c → (s ≡ false → u ≡ false → (c == 34) ≡ false) → (s ≡ false → u ≡ false → (c == 92) ≡ false) → Stays Quoted (octet_text s u c)
quoted_stays true u c e j k = quoted_slash c (e.marked refl)
quoted_stays false true c e j k = quoted_digits c
quoted_stays false false c e j k = quoted_one c (e.printed refl refl) (j refl refl) (k refl refl)

pub quoted_string_octet : (c : ℕ) → c < 256 → Stays Quoted (quoted_octet c)
quoted_string_octet c h =
    let e : NoEnd (is_mark c) (is_hidden c) c = record { marked = mark_no_end c h; printed = string_no_end c h } in
    quoted_stays (is_mark c) (is_hidden c) c e (string_no_quote c h) (string_no_slash c h)

pub bare_string : (s : List ℕ) → AreOctets s → Stays Bare (string_text s)
bare_string s b =
    let q = flat_map quoted_octet s in
    let inner = stays_each Quoted quoted_octet quoted_string_octet s b in (
      (λ n ws w rest.
          ap (λ (x : List ℕ). split_from n ws (w ++ 34 ∷ []) Quoted x) (append_assoc q (34 ∷ []) rest)
          ∙ (inner.0 n ws (w ++ 34 ∷ []) (34 ∷ rest)
          ∙ ap (λ (x : List ℕ). split_from n ws x Bare rest) (append_assoc (w ++ 34 ∷ []) q (34 ∷ []) ∙ append_assoc w (34 ∷ []) (q ++ 34 ∷ [])))),
      (refl, one_line q (34 ∷ []) inner.1 (refl, tt)),
    )

-- ---- letters and digits
alnum_bare : (c : ℕ) → c < 256 → is_ascii_alphanumeric c ≡ true → is_bare c ≡ true
alnum_bare c h e = second (is_ascii_alphanumeric c) (is_bare c) (agree_below_at (λ n. not (is_ascii_alphanumeric n) || is_bare n) (λ n. true) 256 c refl h) e

pub bare_letters : (s : List ℕ) → AreOctets s → list_all is_ascii_alphanumeric s ≡ true → Stays Bare s
bare_letters [] b h = stays_nil Bare
bare_letters (c ∷ s) b h =
    let p = and_parts (is_ascii_alphanumeric c) (list_all is_ascii_alphanumeric s) h in
    stays_append Bare (c ∷ []) s (bare_one c (alnum_bare c b.0 p.0)) (bare_letters s b.1 p.1)

-- ---- words
abbrev pub IsWord : List ℕ → Type 0
IsWord u = Stays Bare u × (0 < length u)

-- where the word before words ends, in a text of n octets
abbrev pub ends_before : ℕ → List (List ℕ) → ℕ
ends_before n [] = n
ends_before n (u ∷ us) = place n (spaced (u ∷ us))

-- the last words of a text of n octets, with their offsets
abbrev pub placed : ℕ → List (List ℕ) → List WordAt
placed n [] = []
placed n (u ∷ us) = word (ends_before n us - length u) u ∷ placed n us

closed_some : (ws : List WordAt) (u : List ℕ) (end : ℕ) → 0 < length u → closed ws u end ≡ ws ++ word (end - length u) u ∷ []
closed_some ws [] end h = absurd (omega (arith, h))
closed_some ws (c ∷ u) end h = refl

words_after : (n : ℕ) (us : List (List ℕ)) → AllByRecursion IsWord us → (ws : List WordAt) (u : List ℕ) → 0 < length u
    → split_from n ws u Bare (spaced us) ≡ Ok (ws ++ placed n (u ∷ us))
words_after n [] b ws u h = ap Ok (closed_some ws u n h)
words_after n (v ∷ us) b ws u h =
    let end = place n (spaced (v ∷ us)) in
    let C = closed ws u end in
    let x = word (end - length u) u in
    b.0.0.0 n C [] (spaced us)
    ∙ (words_after n us b.1 C v b.0.1
    ∙ ap Ok (ap (λ (y : List WordAt). y ++ placed n (v ∷ us)) (closed_some ws u end h) ∙ append_assoc ws (x ∷ []) (placed n (v ∷ us))))

-- the words of a text that words make
pub words_split : (us : List (List ℕ)) → AllByRecursion IsWord us → split (joined us) ≡ Ok (placed (length (joined us)) us)
words_split [] b = refl
words_split (u ∷ us) b = b.0.0.0 (length (joined (u ∷ us))) [] [] (spaced us) ∙ words_after (length (joined (u ∷ us))) us b.1 [] u b.0.1

spaced_line : (us : List (List ℕ)) → AllByRecursion IsWord us → OneLine (spaced us)
spaced_line [] b = tt
spaced_line (u ∷ us) b = (refl, one_line u (spaced us) b.0.0.1 (spaced_line us b.1))

-- No line ends in the text.
pub words_line : (us : List (List ℕ)) → AllByRecursion IsWord us → OneLine (joined us)
words_line [] b = tt
words_line (u ∷ us) b = one_line u (spaced us) b.0.0.1 (spaced_line us b.1)
