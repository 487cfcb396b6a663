-- Texts that are read where they lie: the octets of labels, and the dots between them.
use Rattle.std.proofs.Common.{◌≡◌, ◌≢◌, ℕ, zero, suc, ◌+◌, ◌-◌, ◌<◌, ◌≤◌, List, [], ◌∷◌, ◌++◌, length, take, drop, set, get_or, Result, Ok, Err, MatchResult, None, refl, ap, sym, ◌∙◌, subst, arith, length-append, length-take-le, length-drop}
use Rattle.std.specs.List.{AllByRecursion}
use Rattle.std.specs.Str.{chars}
use Rattle.std.proofs.lemmas.Str.{chars-IsAscii}
use Rattle.std.proofs.lemmas.Str.Ascii.{IsAscii-from_all}
use Rattle.std.proofs.Math.Seq.{take-add}
use Rattle.std.proofs.lemmas.List.{take_more, drop_more, get_or-drop, drop-drop, drop-take, drop-set-lt, take-append-drop, get_or-take}
use Rattle.std.proofs.lemmas.Grind.{common_steps}
use Rattle.std.proofs.lemmas.List.Elements.{All-from_get_or}
use Rattle.domain_label.specs.Spelling.{ReadsSymbols}
use Rattle.domain_label.specs.Wire.{wire, labels_in, Root}
use Rattle.domain_label.specs.declared.symbol.Symbol.TheVariants.{Char}
use Rattle.domain_text.specs.Buffer.{buffer_view, IsBuffer}
use Rattle.domain_text.specs.BuilderState.{BuilderState, empty_state, closed, ended, symbol_fault, Makes, StopsAt}
use Rattle.domain_text.specs.NameSymbols.{name_symbols, name_symbol}
use Rattle.domain_text.specs.Plain.{IsPlain, IsPlainText}
use Rattle.domain_text.specs.TextGrammar.{IsOctet, AreOctets, CanBegin, IsLabelText, IsNameText, NotANameText}
use Rattle.domain_text.specs.declared.name_symbol.TextFault.{TextFault}
use Rattle.domain_text.specs.declared.name_symbol.TextFault.TheVariants.{EmptyLabel, LongLabel}
use Rattle.domain_text.specs.declared.name_symbol.NameSymbol.{NameSymbol}
use Rattle.domain_text.specs.declared.name_symbol.NameSymbol.TheVariants.{Dot}
use Rattle.domain_text.proofs.Buffering.{length_open, length_head, view_ended, inside_ended}
use Rattle.domain_text.proofs.Grammar.{makes-append, label_made}
use Rattle.domain_text.proofs.OneOutcome.{made_name, stopped_name}
use Rattle.domain_text.proofs.Outcomes.{same_items}
use Rattle.domain_text.proofs.Reading.{Item}
use Rattle.domain_text.proofs.Sizes.{built, size_some, long_label}
use Rattle.domain_text.proofs.DisplayedIsRead.{char_part}

-- ---- what a plain text is read as

abbrev pub plain_items : List ℕ → List Item
plain_items [] = []
plain_items (c ∷ cs) = Ok (Char c) ∷ plain_items cs

abbrev pub text_parts : List ℕ → List NameSymbol
text_parts cs = name_symbols (plain_items cs)

reads_plain : (cs : List ℕ) → AllByRecursion IsPlain cs → ReadsSymbols cs (plain_items cs)
reads_plain [] p = refl
reads_plain (c ∷ cs) p = (p.0.1, (cs, refl, reads_plain cs p.1))

pub read_parts : (cs : List ℕ) (all : List Item) → AllByRecursion IsPlain cs → ReadsSymbols cs all → name_symbols all ≡ text_parts cs
read_parts cs all p r = ap name_symbols (same_items cs all r ∙ sym (same_items cs (plain_items cs) (reads_plain cs p)))

parts_joined : (xs ys : List ℕ) → text_parts (xs ++ ys) ≡ text_parts xs ++ text_parts ys
parts_joined [] ys = refl
parts_joined (x ∷ xs) ys = ap (λ (z : List NameSymbol). name_symbol (Ok (Char x)) ∷ z) (parts_joined xs ys)

-- ---- the octets of a label

abbrev pub IsInLabel : ℕ → Type 0
IsInLabel c = IsPlain c × (c ≢ 46)

all_more : (P : ℕ → Type 0) (xs : List ℕ) (c : ℕ) → AllByRecursion P xs → P c → AllByRecursion P (xs ++ c ∷ [])
all_more P [] c a p = (p, tt)
all_more P (x ∷ xs) c a p = (a.0, all_more P xs c a.1 p)

all_at : (P : ℕ → Type 0) (xs : List ℕ) (i : ℕ) → AllByRecursion P xs → i < length xs → P (get_or xs i 0)
all_at P [] i a lt = absurd (omega arith)
all_at P (x ∷ xs) zero a lt = a.0
all_at P (x ∷ xs) (suc i) a lt = all_at P xs i a.1 (omega arith)

all_front : (P : ℕ → Type 0) (xs : List ℕ) (n : ℕ) → AllByRecursion P xs → AllByRecursion P (take n xs)
all_front P xs zero a = tt
all_front P [] (suc n) a = tt
all_front P (x ∷ xs) (suc n) a = (a.0, all_front P xs n a.1)

are_octets : (l : List ℕ) → AllByRecursion IsInLabel l → AreOctets (text_parts l) l
are_octets [] a = tt
are_octets (c ∷ l) a = (subst (λ (p : NameSymbol). IsOctet p c) (sym (char_part c a.0.1 a.0.0.0)) refl, are_octets l a.1)

can_begin : (c : ℕ) (ps : List NameSymbol) → IsInLabel c → CanBegin (name_symbol (Ok (Char c)) ∷ ps)
can_begin c ps i = subst (λ (p : NameSymbol). CanBegin (p ∷ ps)) (sym (char_part c i.1 i.0.0)) tt

is_label_text : (l : List ℕ) → 0 < length l → length l ≤ 63 → AllByRecursion IsInLabel l → IsLabelText (text_parts l) l
is_label_text [] some short a = absurd (omega arith)
is_label_text (c ∷ l) some short a = record { octets = are_octets (c ∷ l) a; start = can_begin c (text_parts l) a.0; short = short }

-- ---- labels that are ended one after another

-- How far they are ended: up to the offset `head`, where the next length octet will stand. The text after lies
-- where the octets of the labels will be, and up to the offset `at` it has no dot.
pub record IsEnded (octets text : List ℕ) (head at : ℕ) : Type 0 where
  pub front : IsBuffer octets head 0
  pub after : take (length text - head) (drop (head + 1) octets) ≡ drop head text
  pub passed : head ≤ at
  pub inside : at ≤ length text
  pub made : Makes empty_state (text_parts (take head text)) (buffer_view octets head 0)
  pub label : AllByRecursion IsInLabel (take (at - head) (drop head text))

pub none_ended : (octets text : List ℕ) → length octets ≡ 255 → take (length text) (drop 1 octets) ≡ text → IsEnded octets text 0 0
none_ended octets text whole there = record {
  front = record { whole = whole; wire = refl; labels = tt; label_short = omega arith; fits = omega arith; open_fits = λ bad. absurd (omega (arith, bad)) };
  after = (let k : length text - 0 ≡ length text = omega arith in ap (λ n. take n (drop 1 octets)) k) ∙ there;
  passed = omega arith;
  inside = omega arith;
  made = refl;
  label = tt;
}

pub letter_passed : (octets text : List ℕ) (head at : ℕ) → IsEnded octets text head at → AllByRecursion IsPlain text → at < length text → get_or text at 0 ≢ 46 → IsEnded octets text head (at + 1)
letter_passed octets text head at e plain more letter =
    let rest : at - head < length (drop head text) = omega (arith, length-drop head text, e.passed, more) in
    let here : get_or (drop head text) (at - head) 0 ≡ get_or text at 0 = get_or-drop head text (at - head) 0 ∙ (let k : head + (at - head) ≡ at = omega (arith, e.passed) in ap (λ i. get_or text i 0) k) in
    let longer : take (at + 1 - head) (drop head text) ≡ take (at - head) (drop head text) ++ get_or text at 0 ∷ [] =
    (let k : at + 1 - head ≡ at - head + 1 = omega (arith, e.passed) in ap (λ i. take i (drop head text)) k) ∙ (take_more (drop head text) (at - head) 0 rest ∙ ap (λ c. take (at - head) (drop head text) ++ c ∷ []) here) in
    record {
      front = e.front;
      after = e.after;
      passed = omega (arith, e.passed);
      inside = omega (arith, more);
      made = e.made;
      label = subst (AllByRecursion IsInLabel) (sym longer) (all_more IsInLabel (take (at - head) (drop head text)) (get_or text at 0) e.label (all_at IsPlain text at plain more, letter));
    }

-- the text up to an offset, label by label
up_to : (text : List ℕ) (head at : ℕ) → head ≤ at → take at text ≡ take head text ++ take (at - head) (drop head text)
up_to text head at le = (let k : at ≡ head + (at - head) = omega (arith, le) in ap (λ i. take i text) k) ∙ take-add head (at - head) text

-- the octets after the head are those of the text
open_octets : (octets text : List ℕ) (head at : ℕ) → IsEnded octets text head at → take (at - head) (drop (head + 1) octets) ≡ take (at - head) (drop head text)
open_octets octets text head at e =
    let k : length text - head ≡ (at - head) + (length text - at) = omega (arith, e.passed, e.inside) in
    let shorter : take (at - head) (take ((at - head) + (length text - at)) (drop (head + 1) octets)) ≡ take (at - head) (drop (head + 1) octets) = grind (arith, common_steps) in
    sym shorter ∙ (ap (λ n. take (at - head) (take n (drop (head + 1) octets))) (sym k) ∙ ap (take (at - head)) e.after)

-- a buffer with an open label
pub opened : (octets : List ℕ) (head n : ℕ) → IsBuffer octets head 0 → n ≤ 63 → head + n ≤ 253 → IsBuffer octets head n
opened octets head n b short fits = record { whole = b.whole; wire = b.wire; labels = b.labels; label_short = short; fits = omega (arith, fits); open_fits = λ _. fits }

-- the open label is made
label_opened : (octets text : List ℕ) (head at : ℕ) → IsEnded octets text head at → length text ≤ 253 → at - head ≤ 63 → Makes (buffer_view octets head 0) (text_parts (take (at - head) (drop head text))) (buffer_view octets head (at - head))
label_opened octets text head at e short fits = made (at - head) refl
  where
    ls : List (List ℕ)
    ls = labels_in (take head octets)

    made : (n : ℕ) → at - head ≡ n → Makes (built ls []) (text_parts (take (at - head) (drop head text))) (built ls (take (at - head) (drop (head + 1) octets)))
    made zero k = subst (λ n. Makes (built ls []) (text_parts (take n (drop head text))) (built ls (take n (drop (head + 1) octets)))) (sym k) refl
    made (suc n) k =
        let l : List ℕ = take (at - head) (drop head text) in
        let long : length l ≡ at - head = length-take-le (at - head) (drop head text) (omega (arith, length-drop head text, e.passed, e.inside)) in
        let some : 0 < length l = omega (arith, long, k) in
        let small : length (wire ls) + 1 + length l ≤ 254 = omega (arith, long, ap length e.front.wire, length-take-le head octets (omega (arith, e.front.whole, e.front.fits)), e.passed, e.inside, short) in
        subst (λ o. Makes (built ls []) (text_parts l) (built ls o)) (sym (open_octets octets text head at e))
        (label_made (text_parts l) l ls (is_label_text l some (omega (arith, long, fits)) e.label) (omega (arith, size_some ls l some, small)))

-- up to the offset, all is made
pub all_made : (octets text : List ℕ) (head at : ℕ) → IsEnded octets text head at → length text ≤ 253 → at - head ≤ 63 → Makes empty_state (text_parts (take at text)) (buffer_view octets head (at - head))
all_made octets text head at e short fits =
    subst (λ z. Makes empty_state z (buffer_view octets head (at - head))) (sym (ap text_parts (up_to text head at e.passed) ∙ parts_joined (take head text) (take (at - head) (drop head text))))
    (makes-append (text_parts (take head text)) (text_parts (take (at - head) (drop head text))) empty_state (buffer_view octets head 0) (buffer_view octets head (at - head)) e.made (label_opened octets text head at e short fits))

-- a dot ends the open label
dot_taken : (ls : List (List ℕ)) (o : List ℕ) → 0 < length o → symbol_fault (built ls o) Dot ≡ None
dot_taken ls [] some = absurd (omega arith)
dot_taken ls (c ∷ o) some = refl

dot_part : (c : ℕ) → c ≡ 46 → name_symbol (Ok (Char c)) ≡ Dot
dot_part c e = ap (λ x. name_symbol (Ok (Char x))) e

after_dot : (octets text : List ℕ) (head at : ℕ) → IsEnded octets text head at → at < length text → take (length text - (at + 1)) (drop (at + 2) octets) ≡ drop (at + 1) text
after_dot octets text head at e more =
    let m : ℕ = at + 1 - head in
    let n : ℕ = length text - (at + 1) in
    let k : length text - head ≡ m + n = omega (arith, e.passed, more) in
    let there : drop m (take (m + n) (drop (head + 1) octets)) ≡ drop m (drop head text) = ap (λ i. drop m (take i (drop (head + 1) octets))) (sym k) ∙ ap (drop m) e.after in
    let front : head + 1 + m ≡ at + 2 = omega (arith, e.passed) in
    let back : head + m ≡ at + 1 = omega (arith, e.passed) in
    ap (λ i. take n (drop i octets)) (sym front)
    ∙ (ap (take n) (sym (drop-drop m (head + 1) octets))
    ∙ (sym (drop-take m n (drop (head + 1) octets))
    ∙ (there ∙ (drop-drop m head text ∙ ap (λ i. drop i text) back))))

pub dot_ended : (octets text : List ℕ) (head at : ℕ) → IsEnded octets text head at → length text ≤ 253 → at < length text → get_or text at 0 ≡ 46 → head < at → at - head ≤ 63 → IsEnded (set octets head (at - head)) text (at + 1) (at + 1)
dot_ended octets text head at e short more dot some fits =
    let n : ℕ = at - head in
    let o : IsBuffer octets head n = opened octets head n e.front fits (omega (arith, e.passed, more, short)) in
    let next : head + 1 + n ≡ at + 1 = omega (arith, e.passed) in
    let long : 0 < length (take n (drop (head + 1) octets)) = omega (arith, length_open octets head n o, some) in
    let view : buffer_view (set octets head n) (at + 1) 0 ≡ ended (buffer_view octets head n) = ap (λ i. buffer_view (set octets head n) i 0) (sym next) ∙ view_ended octets head n o (omega (arith, some)) in
    let ends : Makes (buffer_view octets head n) (name_symbol (Ok (Char (get_or text at 0))) ∷ []) (buffer_view (set octets head n) (at + 1) 0) =
    subst (λ p. Makes (buffer_view octets head n) (p ∷ []) (buffer_view (set octets head n) (at + 1) 0)) (sym (dot_part (get_or text at 0) dot)) (dot_taken (labels_in (take head octets)) (take n (drop (head + 1) octets)) long, view) in
    record {
      front = subst (λ i. IsBuffer (set octets head n) i 0) next (inside_ended octets head n o (omega (arith, some)));
      after = ap (take (length text - (at + 1))) (drop-set-lt (at + 1 + 1) octets head n (omega (arith, e.passed)) ∙ (let k : at + 1 + 1 ≡ at + 2 = omega arith in ap (λ i. drop i octets) k)) ∙ after_dot octets text head at e more;
      passed = omega arith;
      inside = omega (arith, more);
      made = subst (λ z. Makes empty_state z (buffer_view (set octets head n) (at + 1) 0)) (sym (ap text_parts (take_more text at 0 more) ∙ parts_joined (take at text) (get_or text at 0 ∷ [])))
          (makes-append (text_parts (take at text)) (name_symbol (Ok (Char (get_or text at 0))) ∷ []) empty_state (buffer_view octets head n) (buffer_view (set octets head n) (at + 1) 0) (all_made octets text head at e short fits) ends);
      label = (let k : at + 1 - (at + 1) ≡ 0 = omega arith in subst (λ i. AllByRecursion IsInLabel (take i (drop (at + 1) text))) (sym k) tt);
    }

-- ---- faults

-- a text is what is before an offset, the character there, and the rest
whole_at : (text : List ℕ) (at : ℕ) → at < length text → text_parts text ≡ text_parts (take at text) ++ name_symbol (Ok (Char (get_or text at 0))) ∷ text_parts (drop (at + 1) text)
whole_at text at more =
    ap text_parts (sym (take-append-drop at text) ∙ ap (λ z. take at text ++ z) (drop_more text at 0 more)) ∙ parts_joined (take at text) (get_or text at 0 ∷ drop (at + 1) text)

-- a dot where no label is open
pub empty_label : (octets text : List ℕ) (head at : ℕ) → IsEnded octets text head at → length text ≤ 253 → at < length text → get_or text at 0 ≡ 46 → at ≡ head → (m : BuilderState) × StopsAt empty_state (text_parts text) m EmptyLabel
empty_label octets text head at e short more dot same = (
  buffer_view octets head 0,
  record {
    before = text_parts (take at text);
    part = name_symbol (Ok (Char (get_or text at 0)));
    rest = text_parts (drop (at + 1) text);
    parts = whole_at text at more;
    made = subst (λ i. Makes empty_state (text_parts (take i text)) (buffer_view octets head 0)) (sym same) e.made;
    refused = ap (symbol_fault (buffer_view octets head 0)) (dot_part (get_or text at 0) dot);
  },
)

-- the 64th octet of a label
pub long_label_there : (octets text : List ℕ) (head at : ℕ) → IsEnded octets text head at → length text ≤ 253 → 63 < at - head → (m : BuilderState) × StopsAt empty_state (text_parts text) m LongLabel
long_label_there octets text head at e short long =
    let to : ℕ = head + 63 in
    let inside : to < length text = omega (arith, e.passed, e.inside, long) in
    let cut : take 63 (take (at - head) (drop head text)) ≡ take (to - head) (drop head text) = (let k : to - head ≡ 63 = omega arith in ap (λ n. take n (take (at - head) (drop head text))) (sym k) ∙ (grind (arith, common_steps))) in
    let f : IsEnded octets text head to = record {
      front = e.front;
      after = e.after;
      passed = omega arith;
      inside = omega (arith, inside);
      made = e.made;
      label = subst (AllByRecursion IsInLabel) cut (all_front IsInLabel (take (at - head) (drop head text)) 63 e.label);
    } in
    let o : IsBuffer octets head 63 = opened octets head 63 e.front (omega arith) (omega (arith, inside, short)) in
    let k : to - head ≡ 63 = omega arith in
    let c : ℕ = get_or text to 0 in
    let ls : List (List ℕ) = labels_in (take head octets) in
    let w : List ℕ = take 63 (drop (head + 1) octets) in
    let n : length (w ++ c ∷ []) ≡ 64 = omega (arith, length-append w (c ∷ []), length_open octets head 63 o) in
    let size : length (wire ls) + 1 + length (w ++ c ∷ []) ≤ 254 = omega (arith, n, length_head octets head 63 o, inside, short) in
    let some : 0 < length (w ++ c ∷ []) = omega (arith, n) in
    let here : IsInLabel c = subst IsInLabel (get_or-take_there text head at e.passed e.inside long) (all_at IsInLabel (take (at - head) (drop head text)) 63 e.label (omega (arith, length-take-le (at - head) (drop head text) (omega (arith, length-drop head text, e.passed, e.inside)), long))) in (
      buffer_view octets head 63,
      record {
        before = text_parts (take to text);
        part = name_symbol (Ok (Char c));
        rest = text_parts (drop (to + 1) text);
        parts = whole_at text to inside;
        made = subst (λ i. Makes empty_state (text_parts (take to text)) (buffer_view octets head i)) k (all_made octets text head to f short (omega (arith, k)));
        refused = ap (symbol_fault (buffer_view octets head 63)) (char_part c here.1 here.0.0) ∙ long_label (built ls (w ++ c ∷ [])) (omega (arith, size_some ls (w ++ c ∷ []) some, size)) (omega (arith, n));
      },
    )
  where
    get_or-take_there : (text : List ℕ) (head at : ℕ) → head ≤ at → at ≤ length text → 63 < at - head → get_or (take (at - head) (drop head text)) 63 0 ≡ get_or text (head + 63) 0
    get_or-take_there text head at le inside long = get_or-take (at - head) (drop head text) 63 0 long ∙ get_or-drop head text 63 0

-- ---- the end of the text

pub whole_made : (octets text : List ℕ) (head at : ℕ) → IsEnded octets text head at → length text ≤ at → IsEnded octets text head (length text)
whole_made octets text head at e end = let k : at ≡ length text = omega (arith, e.inside, end) in subst (IsEnded octets text head) k e

pub all_read : (octets text : List ℕ) (head at : ℕ) → IsEnded octets text head at → length text ≤ at → length text ≤ 253 → length text - head ≤ 63 → Makes empty_state (text_parts text) (buffer_view octets head (length text - head))
all_read octets text head at e end short fits =
    let all : take (length text) text ≡ text = grind (arith, common_steps) in
    subst (λ t. Makes empty_state (text_parts t) (buffer_view octets head (length text - head))) all
    (all_made octets text head (length text) (whole_made octets text head at e end) short fits)

pub all_inside : (octets text : List ℕ) (head at : ℕ) → IsEnded octets text head at → length text ≤ 253 → length text - head ≤ 63 → IsBuffer octets head (length text - head)
all_inside octets text head at e short fits = opened octets head (length text - head) e.front fits (omega (arith, e.passed, e.inside, short))

-- ---- characters and octets

-- a plain text has as many characters as octets
pub plain_chars : (text : List ℕ) → IsPlainText text → chars text ≡ text
plain_chars text p = chars-IsAscii text (IsAscii-from_all text (All-from_get_or (λ b. b < 128) text 0 (λ i lt. (let c = all_at IsPlain text i p.plain lt in omega (arith, c.0.1)))))

pub plain_reads : (text : List ℕ) (all : List Item) → IsPlainText text → ReadsSymbols (chars text) all → ReadsSymbols text all
plain_reads text all p r = subst (λ cs. ReadsSymbols cs all) (plain_chars text p) r

items_long : (cs : List ℕ) → length (text_parts cs) ≡ length cs
items_long [] = refl
items_long (c ∷ cs) = ap suc (items_long cs)

-- a plain text is that of a name, or has a fault
pub plain_name : (text : List ℕ) (all : List Item) (b : BuilderState) (r : Result (Unit {0}) TextFault) → IsPlainText text → ReadsSymbols text all → MatchResult r (λ _. Makes empty_state (name_symbols all) b) (λ f. (m : BuilderState) × StopsAt empty_state (name_symbols all) m f) → MatchResult r (λ _. IsNameText (name_symbols all) (closed b ++ Root)) (λ f. NotANameText (name_symbols all) f)
plain_name text all b r p h m =
    let long : length (name_symbols all) ≡ length text = ap length (read_parts text all p.plain h) ∙ items_long text in
    named r m (omega (arith, long, p.some))
  where
    named : (r : Result (Unit {0}) TextFault) → MatchResult r (λ _. Makes empty_state (name_symbols all) b) (λ f. (m : BuilderState) × StopsAt empty_state (name_symbols all) m f) → 1 < length (name_symbols all) → MatchResult r (λ _. IsNameText (name_symbols all) (closed b ++ Root)) (λ f. NotANameText (name_symbols all) f)
    named (Ok u) g long = made_name (name_symbols all) b (omega (arith, long)) g
    named (Err f) s long = stopped_name (name_symbols all) s.0 f (λ alone. absurd (omega (arith, ap length alone, long))) s.1
