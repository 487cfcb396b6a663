-- The texts that a name shows are read as that name.
use Rattle.std.proofs.Common.{◌≡◌, ◌≢◌, ℕ, ◌+◌, ◌/◌, ◌%◌, ◌<◌, ◌==◌, inl, inr, List, [], ◌∷◌, ◌++◌, Ok, Err, Bool, true, false, cond, nat_lt, ◌||◌, refl, ap, sym, ◌∙◌, subst, arith, append_assoc, append-nil}
use Rattle.std.specs.List.{AllByRecursion, flat_map}
use Rattle.std.proofs.lemmas.Bool.{eqb-true, eqb-false, ltb-false, ne_eqb, le-leb}
use Rattle.domain_label.specs.Wire.{IsLabel, IsAbsolute, IsRelative, IsAbsoluteName, IsRelativeName, Root}
use Rattle.domain_label.specs.Text.{escaped_octet, escaped, with_dot, or_dot, text_with_final_dot, dot_before, displayed, text}
use Rattle.domain_label.specs.declared.symbol.Symbol.{Symbol}
use Rattle.domain_label.specs.declared.symbol.Symbol.TheVariants.{Char, SimpleEscape, DecimalEscape}
use Rattle.domain_label.specs.Spelling.{spelling, HasSpelling, IsPrintable, IsNoDigit, ReadsSymbols}
use Rattle.domain_label.proofs.ReadOnce.{none_spelled, none_broken}
use Rattle.domain_text.specs.NameSymbols.{name_symbols, symbol_in_name}
use Rattle.domain_text.specs.Laws.{AreBytes}
use Rattle.domain_text.specs.TextGrammar.{AreOctets, CanBegin, IsLabelText, Joined, IsTextSoFar, IsTextOfName, IsTextOfRelative}
use Rattle.domain_text.specs.declared.name_symbol.NameSymbol.{NameSymbol}
use Rattle.domain_text.specs.declared.name_symbol.NameSymbol.TheVariants.{Dot, Octet}
use Rattle.domain_text.proofs.Grammar.{begins_texts}
use Rattle.domain_text.proofs.Reading.{Item, parts-append}

-- the symbol that an octet is shown as
symbol_by : Bool → Bool → ℕ → Symbol
symbol_by true q c = SimpleEscape c
symbol_by false true c = DecimalEscape c
symbol_by false false c = Char c

is_special : ℕ → Bool
is_special c = c == 32 || c == 46 || c == 92

is_unprintable : ℕ → Bool
is_unprintable c = nat_lt c 32 || nat_lt 126 c

symbol_of : ℕ → Symbol
symbol_of c = symbol_by (is_special c) (is_unprintable c) c

special : (c : ℕ) → is_special c ≡ true → IsPrintable c × IsNoDigit c × (c ≢ 91)
unfolding is_special
special c h = at (c == 32) refl (c == 46) refl (c == 92) refl h
  where
    at : (p : Bool) → (c == 32) ≡ p → (q : Bool) → (c == 46) ≡ q → (r : Bool) → (c == 92) ≡ r → (p || q || r) ≡ true → IsPrintable c × IsNoDigit c × (c ≢ 91)
    at true e q f r g h = let k : c ≡ 32 = eqb-true c 32 e in ((omega (arith, k), omega (arith, k)), inl (omega (arith, k)), omega (arith, k))
    at false e true f r g h = let k : c ≡ 46 = eqb-true c 46 f in ((omega (arith, k), omega (arith, k)), inl (omega (arith, k)), omega (arith, k))
    at false e false f true g h = let k : c ≡ 92 = eqb-true c 92 g in ((omega (arith, k), omega (arith, k)), inr (omega (arith, k)), omega (arith, k))
    at false e false f false g h = absurd (cc h)

plain : (c : ℕ) → is_special c ≡ false → (c ≢ 46) × (c ≢ 92)
unfolding is_special
plain c h = at (c == 32) refl (c == 46) refl (c == 92) refl h
  where
    at : (p : Bool) → (c == 32) ≡ p → (q : Bool) → (c == 46) ≡ q → (r : Bool) → (c == 92) ≡ r → (p || q || r) ≡ false → (c ≢ 46) × (c ≢ 92)
    at true e q f r g h = absurd (cc h)
    at false e true f r g h = absurd (cc h)
    at false e false f true g h = absurd (cc h)
    at false e false f false g h = (eqb-false c 46 f, eqb-false c 92 g)

printable : (c : ℕ) → is_unprintable c ≡ false → IsPrintable c
unfolding is_unprintable
printable c h = at (nat_lt c 32) refl (nat_lt 126 c) refl h
  where
    at : (p : Bool) → nat_lt c 32 ≡ p → (q : Bool) → nat_lt 126 c ≡ q → (p || q) ≡ false → IsPrintable c
    at true e q f h = absurd (cc h)
    at false e true f h = absurd (cc h)
    at false e false f h = (ltb-false c 32 e, ltb-false 126 c f)

spelled : (c : ℕ) → escaped_octet c ≡ spelling (symbol_of c)
unfolding symbol_of symbol_by is_special is_unprintable
spelled c = at (c == 32 || c == 46 || c == 92) (nat_lt c 32 || nat_lt 126 c)
  where
    at : (p q : Bool) → cond p (92 ∷ c ∷ []) (cond q (92 ∷ (48 + c / 100) ∷ (48 + c / 10 % 10) ∷ (48 + c % 10) ∷ []) (c ∷ [])) ≡ spelling (symbol_by p q c)
    at true q = refl
    at false true = refl
    at false false = refl

has_spelling : (c : ℕ) → c < 256 → HasSpelling (symbol_of c)
unfolding symbol_of symbol_by
has_spelling c h = at (is_special c) refl (is_unprintable c) refl
  where
    at : (p : Bool) → is_special c ≡ p → (q : Bool) → is_unprintable c ≡ q → HasSpelling (symbol_by p q c)
    at true e q f = let k = special c e in (k.0, k.1)
    at false e true f = omega (arith, h)
    at false e false f = (plain c e).1

pub char_part : (c : ℕ) → c ≢ 46 → IsPrintable c → symbol_in_name (Char c) ≡ Octet c
char_part c other print = rw (ne_eqb c 46 other, le-leb 32 c print.0, le-leb c 126 print.1) refl

escape_part : (c : ℕ) → c ≢ 91 → symbol_in_name (SimpleEscape c) ≡ Octet c
escape_part c other = rw (ne_eqb c 91 other) refl

shown_part : (c : ℕ) → symbol_in_name (symbol_of c) ≡ Octet c
unfolding symbol_of symbol_by
shown_part c = at (is_special c) refl (is_unprintable c) refl
  where
    at : (p : Bool) → is_special c ≡ p → (q : Bool) → is_unprintable c ≡ q → symbol_in_name (symbol_by p q c) ≡ Octet c
    at true e q f = escape_part c (special c e).2
    at false e true f = refl
    at false e false f = char_part c (plain c e).0 (printable c f)

-- the items of a label that is shown
shown_items : List ℕ → List Item
shown_items [] = []
shown_items (c ∷ l) = Ok (symbol_of c) ∷ shown_items l

label_reads : (l rest : List ℕ) (items : List Item) → AllByRecursion (λ c. c < 256) l → ReadsSymbols rest items → ReadsSymbols (escaped l ++ rest) (shown_items l ++ items)
unfolding shown_items
label_reads [] rest items b r = r
label_reads (c ∷ l) rest items b r =
    (has_spelling c b.0, (escaped l ++ rest, append_assoc (escaped_octet c) (escaped l) rest ∙ ap (λ (x : List ℕ). x ++ (escaped l ++ rest)) (spelled c), label_reads l rest items b.1 r))

shown_octets : (l : List ℕ) → AreOctets (name_symbols (shown_items l)) l
unfolding shown_items
shown_octets [] = tt
shown_octets (c ∷ l) = subst (λ (x : NameSymbol). AreOctets (x ∷ name_symbols (shown_items l)) (c ∷ l)) (sym (shown_part c)) (refl, shown_octets l)

encoded_label : (c : ℕ) (l : List ℕ) → IsLabel (c ∷ l) → IsLabelText (name_symbols (shown_items (c ∷ l))) (c ∷ l)
unfolding shown_items
encoded_label c l short = record {
  octets = shown_octets (c ∷ l);
  start = subst (λ (x : NameSymbol). CanBegin (x ∷ name_symbols (shown_items l))) (sym (shown_part c)) tt;
  short = short;
}

dot_reads : (rest : List ℕ) (items : List Item) → ReadsSymbols rest items → ReadsSymbols (46 ∷ rest) (Ok (Char 46) ∷ items)
dot_reads rest items r = (omega arith, (rest, refl, r))

-- ---- each label and a dot after it
pub record Dots (ls : List (List ℕ)) : Type 0 where
  pub items : List Item
  pub labels : List (List ℕ)
  pub reads : ReadsSymbols (flat_map with_dot ls) items
  pub begins : IsTextSoFar (name_symbols items) labels []
  pub all : ls ≡ labels ++ Root

dots : (ls : List (List ℕ)) → IsAbsolute ls → AreBytes ls → Dots ls
dots [] a b = absurd a
dots ([] ∷ ls) a b = record { items = []; labels = []; reads = ap (flat_map with_dot) a; begins = refl; all = ap (λ (x : List (List ℕ)). [] ∷ x) a }
dots ((c ∷ l) ∷ ls) a b =
    let d = dots ls a.1 b.1 in
    record {
      items = shown_items (c ∷ l) ++ Ok (Char 46) ∷ d.items;
      labels = (c ∷ l) ∷ d.labels;
      reads = subst (λ (x : List ℕ). ReadsSymbols x (shown_items (c ∷ l) ++ Ok (Char 46) ∷ d.items)) (sym (append_assoc (escaped (c ∷ l)) (46 ∷ []) (flat_map with_dot ls)))
          (label_reads (c ∷ l) (46 ∷ flat_map with_dot ls) (Ok (Char 46) ∷ d.items) b.0 (dot_reads (flat_map with_dot ls) d.items d.reads));
      begins = (name_symbols (shown_items (c ∷ l)), name_symbols d.items, encoded_label c l a.0, parts-append (shown_items (c ∷ l)) (Ok (Char 46) ∷ d.items), d.begins);
      all = ap (λ (x : List (List ℕ)). (c ∷ l) ∷ x) d.all;
    }

no_dot : (x y : List NameSymbol) → [] ≡ x ++ Dot ∷ y → ⊥
no_dot [] y e = cc
no_dot (p ∷ x) y e = cc

no_items : (i : Item) (items : List Item) → ReadsSymbols [] (i ∷ items) → ⊥
no_items (Ok s) items r = none_spelled s [] r.1.0 refl r.1.1
no_items (Err f) items r = none_broken [] f refl r.0

pub dotted_spells : (ls : List (List ℕ)) → IsAbsoluteName ls → AreBytes ls → IsTextOfName (text_with_final_dot ls) ls
dotted_spells ls n b = at d.items d.labels (flat_map with_dot ls) d.reads d.begins d.all
  where
    d : Dots ls
    d = dots ls n.0 b

    at : (items : List Item) (ks : List (List ℕ)) (cs : List ℕ) → ReadsSymbols cs items → IsTextSoFar (name_symbols items) ks [] → ls ≡ ks ++ Root → IsTextOfName (or_dot cs) ls
    at [] [] [] r g e = (Ok (Char 46) ∷ [], dot_reads [] [] refl, inl (refl, e))
    at [] [] (c ∷ cs) r g e = absurd (cc r)
    at [] (k ∷ ks) cs r g e = absurd (no_dot g.0 g.1 g.3)
    at (i ∷ items) ks [] r g e = absurd (no_items i items r)
    at (i ∷ items) ks (c ∷ cs) r g e = (i ∷ items, r, inr (ks, begins_texts (name_symbols (i ∷ items)) ks [] g (omega arith), e, n.1))

-- ---- labels joined by dots
pub record Joins (ls : List (List ℕ)) : Type 0 where
  pub items : List Item
  pub reads : ReadsSymbols (text ls) items
  pub joined : Joined (name_symbols items) ls

joins : (ls : List (List ℕ)) → IsRelative ls → AreBytes ls → Joins ls
joins [] a b = record { items = []; reads = refl; joined = refl }
joins ([] ∷ ls) a b = absurd a
joins ((c ∷ l) ∷ []) a b = record {
  items = shown_items (c ∷ l) ++ [];
  reads = label_reads (c ∷ l) [] [] b.0 refl;
  joined = subst (λ (x : List Item). IsLabelText (name_symbols x) (c ∷ l)) (sym (append-nil (shown_items (c ∷ l)))) (encoded_label c l a.0);
}
joins ((c ∷ l) ∷ m ∷ ls) a b =
    let j = joins (m ∷ ls) a.1 b.1 in
    record {
      items = shown_items (c ∷ l) ++ Ok (Char 46) ∷ j.items;
      reads = subst (λ (x : List ℕ). ReadsSymbols (escaped (c ∷ l) ++ x) (shown_items (c ∷ l) ++ Ok (Char 46) ∷ j.items)) (joined_text m ls a.1)
          (label_reads (c ∷ l) (46 ∷ text (m ∷ ls)) (Ok (Char 46) ∷ j.items) b.0 (dot_reads (text (m ∷ ls)) j.items j.reads));
      joined = (name_symbols (shown_items (c ∷ l)), name_symbols j.items, encoded_label c l a.0, parts-append (shown_items (c ∷ l)) (Ok (Char 46) ∷ j.items), j.joined);
    }
  where
    joined_text : (m : List ℕ) (ls : List (List ℕ)) → IsRelative (m ∷ ls) → 46 ∷ text (m ∷ ls) ≡ flat_map dot_before (m ∷ ls)
    joined_text [] ls a = absurd a
    joined_text (d ∷ m) ls a = refl

pub text_spells : (ls : List (List ℕ)) → IsRelativeName ls → AreBytes ls → IsTextOfRelative (text ls) ls
text_spells ls n b = let j = joins ls n.0 b in (j.items, j.reads, (j.joined, n.1))

-- ---- labels joined by dots, without the root
record Front (ls : List (List ℕ)) : Type 0 where
  labels : List (List ℕ)
  all : ls ≡ labels ++ Root
  relative : IsRelative labels
  bytes : AreBytes labels
  dots : flat_map dot_before ls ≡ flat_map dot_before labels
  joined : text ls ≡ text labels

front : (ls : List (List ℕ)) → IsAbsolute ls → AreBytes ls → Front ls
front [] a b = absurd a
front ([] ∷ ls) a b = record {
  labels = [];
  all = ap (λ (x : List (List ℕ)). [] ∷ x) a;
  relative = tt;
  bytes = tt;
  dots = ap (flat_map dot_before) a;
  joined = ap (flat_map dot_before) a;
}
front ((c ∷ l) ∷ ls) a b =
    let f = front ls a.1 b.1 in
    record {
      labels = (c ∷ l) ∷ f.labels;
      all = ap (λ (x : List (List ℕ)). (c ∷ l) ∷ x) f.all;
      relative = (a.0, f.relative);
      bytes = (b.0, f.bytes);
      dots = ap (λ (x : List ℕ). dot_before (c ∷ l) ++ x) f.dots;
      joined = ap (λ (x : List ℕ). escaped (c ∷ l) ++ x) f.dots;
    }

some_parts : (k : List ℕ) (ks : List (List ℕ)) → Joined [] (k ∷ ks) → ⊥
some_parts k [] h = h.start
some_parts k (m ∷ ks) h = no_dot h.0 h.1 h.3

pub shown_spells : (ls : List (List ℕ)) → IsAbsoluteName ls → AreBytes ls → IsTextOfName (displayed ls) ls
shown_spells ls n b = at f.labels f.all f.joined (joins f.labels f.relative f.bytes)
  where
    f : Front ls
    f = front ls n.0 b

    some : (k : List ℕ) (ks : List (List ℕ)) (items : List Item) (cs : List ℕ) → ls ≡ (k ∷ ks) ++ Root → ReadsSymbols cs items → Joined (name_symbols items) (k ∷ ks) → IsTextOfName (or_dot cs) ls
    some k ks [] cs e r g = absurd (some_parts k ks g)
    some k ks (i ∷ items) [] e r g = absurd (no_items i items r)
    some k ks (i ∷ items) (c ∷ cs) e r g = (i ∷ items, r, inr (k ∷ ks, record { some = omega arith; text = name_symbols (i ∷ items); joined = g; dot = inl refl }, e, n.1))

    at : (ks : List (List ℕ)) → ls ≡ ks ++ Root → text ls ≡ text ks → Joins ks → IsTextOfName (displayed ls) ls
    at [] e t j = subst (λ (x : List ℕ). IsTextOfName (or_dot x) ls) (sym t) (Ok (Char 46) ∷ [], dot_reads [] [] refl, inl (refl, e))
    at (k ∷ ks) e t j = subst (λ (x : List ℕ). IsTextOfName (or_dot x) ls) (sym t) (some k ks j.items (text (k ∷ ks)) e j.reads j.joined)
