-- What parts make of nothing is what the grammar says.
use Rattle.std.proofs.Common.{◌≡◌, ℕ, ◌+◌, ◌<◌, ◌≤◌, ◌⊎◌, inl, inr, List, [], ◌∷◌, ◌++◌, length, None, refl, ap, sym, ◌∙◌, subst, arith, append_assoc, append-nil, length-append}
use Rattle.domain_label.specs.Wire.{wire}
use Rattle.domain_text.specs.BuilderState.{BuilderState, empty_state, closed_with, closed, size, symbol_fault, after, too_long, Makes}
use Rattle.domain_text.specs.TextGrammar.{IsOctet, AreOctets, CanBegin, IsLabelText, Joined, AreLabelTexts, IsTextSoFar}
use Rattle.domain_text.specs.declared.name_symbol.NameSymbol.{NameSymbol}
use Rattle.domain_text.specs.declared.name_symbol.NameSymbol.TheVariants.{Dot, Octet, Bracket, Nothing}
use Rattle.domain_text.proofs.Sizes.{built, length-wire_append, size_some, labels_le, taken, take_ok}

-- parts that are made in turn
pub makes-append : (ps qs : List NameSymbol) (b m n : BuilderState) → Makes b ps m → Makes m qs n → Makes b (ps ++ qs) n
makes-append [] qs b m n e h = subst (λ (x : BuilderState). Makes x qs n) e h
makes-append (p ∷ ps) qs b m n g h = (g.0, makes-append ps qs (after b p) m n g.1 h)

pub makes_one : (ps : List NameSymbol) (b m n : BuilderState) → Makes b ps m → Makes b ps n → m ≡ n
makes_one [] b m n g h = g ∙ sym h
makes_one (p ∷ ps) b m n g h = makes_one ps (after b p) m n g.1 h.1

-- ---- from the grammar to what is made

-- an octet follows, unless it begins a label and can't
octet_follows : (p : NameSymbol) (c : ℕ) (ls : List (List ℕ)) (o : List ℕ) → IsOctet p c → (o ≡ [] → CanBegin (p ∷ [])) → size (built ls (o ++ c ∷ [])) ≤ 254 → length (o ++ c ∷ []) ≤ 63 → (symbol_fault (built ls o) p ≡ None) × (after (built ls o) p ≡ built ls (o ++ c ∷ []))
octet_follows Dot c ls o is start n l = absurd is
octet_follows (Octet d) c ls o is start n l = subst (λ (x : ℕ). (symbol_fault (built ls o) (Octet x) ≡ None) × (after (built ls o) (Octet x) ≡ built ls (o ++ c ∷ []))) (sym is) (take_ok (built ls (o ++ c ∷ [])) n l, refl)
octet_follows Bracket c ls [] is start n l = absurd (start refl)
octet_follows Bracket c ls (x ∷ o) is start n l =
    let e : built ls ((x ∷ o) ++ 91 ∷ []) ≡ built ls ((x ∷ o) ++ c ∷ []) = ap (λ (y : ℕ). built ls ((x ∷ o) ++ y ∷ [])) is in
    (ap too_long e ∙ take_ok (built ls ((x ∷ o) ++ c ∷ [])) n l, e)
octet_follows (Nothing f) c ls o is start n l = absurd is

start_of : (p : NameSymbol) (ps : List NameSymbol) → CanBegin (p ∷ ps) → CanBegin (p ∷ [])
start_of Dot ps h = tt
start_of (Octet d) ps h = tt
start_of Bracket ps h = h
start_of (Nothing f) ps h = tt

-- octets of an open label
pub octets_made : (ps : List NameSymbol) (l : List ℕ) (ls : List (List ℕ)) (o : List ℕ) → AreOctets ps l → (o ≡ [] → CanBegin ps) → size (built ls (o ++ l)) ≤ 254 → length (o ++ l) ≤ 63 → Makes (built ls o) ps (built ls (o ++ l))
octets_made [] [] ls o are start n s = ap (built ls) (append-nil o)
octets_made [] (c ∷ l) ls o are start n s = absurd are
octets_made (p ∷ ps) [] ls o are start n s = absurd are
octets_made (p ∷ ps) (c ∷ l) ls o are start n s =
    let e : (o ++ c ∷ []) ++ l ≡ o ++ c ∷ l = append_assoc o (c ∷ []) l in
    let some : 0 < length (o ++ c ∷ []) = omega (arith, length-append o (c ∷ [])) in
    let len : length (o ++ c ∷ l) ≡ length (o ++ c ∷ []) + length l = ap length (sym e) ∙ length-append (o ++ c ∷ []) l in
    let all : 0 < length (o ++ c ∷ l) = omega (arith, len, some) in
    let small : size (built ls (o ++ c ∷ [])) ≤ 254 = omega (arith, size_some ls (o ++ c ∷ []) some, size_some ls (o ++ c ∷ l) all, len, n) in
    let first = octet_follows p c ls o are.0 (λ none. start_of p ps (start none)) small (omega (arith, len, s)) in
    let not_none : o ++ c ∷ [] ≡ [] → CanBegin ps = λ none. absurd (let k : length (o ++ c ∷ []) ≡ length {A = ℕ} [] = ap length none in omega (arith, some, k)) in
    let more : Makes (built ls (o ++ c ∷ [])) ps (built ls ((o ++ c ∷ []) ++ l)) = octets_made ps l ls (o ++ c ∷ []) are.1 not_none (subst (λ (x : List ℕ). size (built ls x) ≤ 254) (sym e) n) (subst (λ (x : List ℕ). length x ≤ 63) (sym e) s) in
    (first.0, subst (λ (x : BuilderState). Makes x ps (built ls (o ++ c ∷ l))) (sym first.1) (subst (λ (x : List ℕ). Makes (built ls (o ++ c ∷ [])) ps (built ls x)) e more))

-- a label text has octets
label_some : (ps : List NameSymbol) (l : List ℕ) → IsLabelText ps l → 0 < length l
label_some [] l t = absurd t.start
label_some (p ∷ ps) [] t = absurd t.octets
label_some (p ∷ ps) (c ∷ l) t = omega arith

pub label_made : (ps : List NameSymbol) (l : List ℕ) (ls : List (List ℕ)) → IsLabelText ps l → size (built ls l) ≤ 254 → Makes (built ls []) ps (built ls l)
label_made ps l ls t n = octets_made ps l ls [] t.octets (λ _. t.start) n t.short

dot_follows : (ls : List (List ℕ)) (l : List ℕ) → 0 < length l → (symbol_fault (built ls l) Dot ≡ None) × (after (built ls l) Dot ≡ built (ls ++ l ∷ []) [])
dot_follows ls [] h = absurd (omega arith)
dot_follows ls (c ∷ l) h = (refl, refl)

-- what a text begins with, after labels
after_made : (ps : List NameSymbol) (ls fs : List (List ℕ)) (o : List ℕ) → IsTextSoFar ps fs o → size (built (ls ++ fs) o) ≤ 254 → Makes (built ls []) ps (built (ls ++ fs) o)
after_made ps ls [] [] h n = subst (λ (x : List NameSymbol). Makes (built ls []) x (built (ls ++ []) [])) (sym h) (ap (λ (x : List (List ℕ)). built x []) (append-nil ls))
after_made ps ls [] (c ∷ o) h n =
    let e : ls ++ [] ≡ ls = append-nil ls in
    subst (λ (x : List (List ℕ)). Makes (built ls []) ps (built x (c ∷ o))) (sym e) (label_made ps (c ∷ o) ls h (subst (λ (x : List (List ℕ)). size (built x (c ∷ o)) ≤ 254) e n))
after_made ps ls (l ∷ fs) o h n =
    let some : 0 < length l = label_some h.0 l h.2 in
    let e : (ls ++ l ∷ []) ++ fs ≡ ls ++ l ∷ fs = append_assoc ls (l ∷ []) fs in
    let k : length (wire (ls ++ l ∷ fs)) ≡ length (wire ls) + length (wire (l ∷ fs)) = length-wire_append ls (l ∷ fs) in
    let j : length (wire (l ∷ fs)) ≡ 1 + length l + length (wire fs) = omega (arith, length-append l (wire fs)) in
    let small : size (built ls l) ≤ 254 = omega (arith, size_some ls l some, labels_le (ls ++ l ∷ fs) o, k, j, n) in
    let dot = dot_follows ls l some in
    let more : Makes (built (ls ++ l ∷ []) []) h.1 (built (ls ++ l ∷ fs) o) = subst (λ (x : List (List ℕ)). Makes (built (ls ++ l ∷ []) []) h.1 (built x o)) e (after_made h.1 (ls ++ l ∷ []) fs o h.4 (subst (λ (x : List (List ℕ)). size (built x o) ≤ 254) (sym e) n)) in
    let rest : Makes (built ls l) (Dot ∷ h.1) (built (ls ++ l ∷ fs) o) = (dot.0, subst (λ (x : BuilderState). Makes x h.1 (built (ls ++ l ∷ fs) o)) (sym dot.1) more) in
    subst (λ (x : List NameSymbol). Makes (built ls []) x (built (ls ++ l ∷ fs) o)) (sym h.3) (makes-append h.0 (Dot ∷ h.1) (built ls []) (built ls l) (built (ls ++ l ∷ fs) o) (label_made h.0 l ls h.2 small) rest)

pub begins_made : (ps : List NameSymbol) (b : BuilderState) → IsTextSoFar ps b.labels b.open_label → size b ≤ 254 → Makes empty_state ps b
begins_made ps b h n = after_made ps [] b.labels b.open_label h n

-- ---- from what is made to the grammar

octets_more : (ps : List NameSymbol) (l : List ℕ) (p : NameSymbol) (c : ℕ) → AreOctets ps l → IsOctet p c → AreOctets (ps ++ p ∷ []) (l ++ c ∷ [])
octets_more [] [] p c are is = (is, tt)
octets_more [] (d ∷ l) p c are is = absurd are
octets_more (q ∷ ps) [] p c are is = absurd are
octets_more (q ∷ ps) (d ∷ l) p c are is = (are.0, octets_more ps l p c are.1 is)

start_more : (ps qs : List NameSymbol) → CanBegin ps → CanBegin (ps ++ qs)
start_more [] qs h = absurd h
start_more (Dot ∷ ps) qs h = tt
start_more (Octet d ∷ ps) qs h = tt
start_more (Bracket ∷ ps) qs h = h
start_more (Nothing f ∷ ps) qs h = tt

-- one octet more
octet_more : (ps : List NameSymbol) (fs : List (List ℕ)) (o : List ℕ) (p : NameSymbol) (c : ℕ) → IsTextSoFar ps fs o → IsOctet p c → (o ≡ [] → CanBegin (p ∷ [])) → length (o ++ c ∷ []) ≤ 63 → IsTextSoFar (ps ++ p ∷ []) fs (o ++ c ∷ [])
octet_more ps [] [] p c h is start s = subst (λ (x : List NameSymbol). IsLabelText (x ++ p ∷ []) (c ∷ [])) (sym h) (record { octets = (is, tt); start = start refl; short = s })
octet_more ps [] (d ∷ o) p c h is start s = record { octets = octets_more ps (d ∷ o) p c h.octets is; start = start_more ps (p ∷ []) h.start; short = s }
octet_more ps (l ∷ fs) o p c h is start s = (h.0, h.1 ++ p ∷ [], h.2, ap (λ (x : List NameSymbol). x ++ p ∷ []) h.3 ∙ append_assoc h.0 (Dot ∷ h.1) (p ∷ []), octet_more h.1 fs o p c h.4 is start s)

-- one dot more
dot_more : (ps : List NameSymbol) (fs : List (List ℕ)) (c : ℕ) (o : List ℕ) → IsTextSoFar ps fs (c ∷ o) → IsTextSoFar (ps ++ Dot ∷ []) (fs ++ (c ∷ o) ∷ []) []
dot_more ps [] c o h = (ps, [], h, refl, refl)
dot_more ps (l ∷ fs) c o h = (h.0, h.1 ++ Dot ∷ [], h.2, ap (λ (x : List NameSymbol). x ++ Dot ∷ []) h.3 ∙ append_assoc h.0 (Dot ∷ h.1) (Dot ∷ []), dot_more h.1 fs c o h.4)

-- one part more, whatever it is
part_more : (ps : List NameSymbol) (p : NameSymbol) (fs : List (List ℕ)) (o : List ℕ) → IsTextSoFar ps fs o → size (built fs o) ≤ 254 → symbol_fault (built fs o) p ≡ None → IsTextSoFar (ps ++ p ∷ []) (after (built fs o) p).labels (after (built fs o) p).open_label × (size (after (built fs o) p) ≤ 254)
part_more ps Dot fs [] h n e = absurd (cc)
part_more ps Dot fs (c ∷ o) h n e = (dot_more ps fs c o h, n)
part_more ps (Octet c) fs o h n e = let k = taken (built fs (o ++ c ∷ [])) e in (octet_more ps fs o (Octet c) c h refl (λ _. tt) k.1, k.0)
part_more ps Bracket fs [] h n e = absurd (cc)
part_more ps Bracket fs (c ∷ o) h n e = let k = taken (built fs ((c ∷ o) ++ 91 ∷ [])) e in (octet_more ps fs (c ∷ o) Bracket 91 h refl (λ none. absurd (cc)) k.1, k.0)
part_more ps (Nothing f) fs o h n e = absurd (cc)

made_more : (ps before : List NameSymbol) (b m : BuilderState) → IsTextSoFar before b.labels b.open_label → size b ≤ 254 → Makes b ps m → IsTextSoFar (before ++ ps) m.labels m.open_label × (size m ≤ 254)
made_more [] before b m h n e = subst (λ (x : BuilderState). IsTextSoFar (before ++ []) x.labels x.open_label × (size x ≤ 254)) (sym e) (subst (λ (x : List NameSymbol). IsTextSoFar x b.labels b.open_label × (size b ≤ 254)) (sym (append-nil before)) (h, n))
made_more (p ∷ ps) before b m h n g =
    let k = part_more before p b.labels b.open_label h n g.0 in
    subst (λ (x : List NameSymbol). IsTextSoFar x m.labels m.open_label × (size m ≤ 254)) (append_assoc before (p ∷ []) ps) (made_more ps (before ++ p ∷ []) (after b p) m k.0 k.1 g.1)

pub made_begins : (ps : List NameSymbol) (b : BuilderState) → Makes empty_state ps b → IsTextSoFar ps b.labels b.open_label × (size b ≤ 254)
made_begins ps b g = made_more ps [] empty_state b refl (omega arith) g

-- ---- what a text begins with, and texts of labels

-- where a dot is the last part of a text, or no label is open
pub begins_dotted : (text : List NameSymbol) (ls : List (List ℕ)) → Joined text ls → 0 < length ls → IsTextSoFar (text ++ Dot ∷ []) ls []
begins_dotted text [] h n = absurd (omega arith)
begins_dotted text (l ∷ []) h n = (text, [], h, refl, refl)
begins_dotted text (l ∷ m ∷ ls) h n = (h.0, h.1 ++ Dot ∷ [], h.2, ap (λ (x : List NameSymbol). x ++ Dot ∷ []) h.3 ∙ append_assoc h.0 (Dot ∷ h.1) (Dot ∷ []), begins_dotted h.1 (m ∷ ls) h.4 (omega arith))

-- the labels of a text of labels as what is built
pub record Ends (ps : List NameSymbol) (ls : List (List ℕ)) : Type 0 where
  pub built : BuilderState
  pub begins : IsTextSoFar ps built.labels built.open_label
  pub labels : closed built ≡ ls

label_ends : (ps : List NameSymbol) (l : List ℕ) → IsLabelText ps l → IsTextSoFar ps [] l × (closed_with [] l ≡ l ∷ [])
label_ends ps [] t = let k = label_some ps [] t in absurd (omega (arith, k))
label_ends ps (c ∷ l) t = (t, refl)

closed-cons : (l : List ℕ) (fs : List (List ℕ)) (o : List ℕ) → closed_with (l ∷ fs) o ≡ l ∷ closed_with fs o
closed-cons l fs [] = refl
closed-cons l fs (c ∷ o) = refl

-- a text of labels leaves the last open
pub joined_begins : (text : List NameSymbol) (ls : List (List ℕ)) → Joined text ls → Ends text ls
joined_begins text [] h = record { built = empty_state; begins = h; labels = refl }
joined_begins text (l ∷ []) h = let k = label_ends text l h in record { built = built [] l; begins = k.0; labels = k.1 }
joined_begins text (l ∷ m ∷ ls) h =
    let k = joined_begins h.1 (m ∷ ls) h.4 in
    record { built = built (l ∷ k.built.labels) k.built.open_label; begins = (h.0, h.1, h.2, h.3, k.begins); labels = closed-cons l k.built.labels k.built.open_label ∙ ap (λ (x : List (List ℕ)). l ∷ x) k.labels }

-- a text that begins so is a text of labels, with a dot after the last where none is open
pub begins_joined : (ps : List NameSymbol) (fs : List (List ℕ)) (o : List ℕ) → IsTextSoFar ps fs o → 0 < length o → Joined ps (closed_with fs o)
begins_joined ps [] [] h n = absurd (omega arith)
begins_joined ps [] (c ∷ o) h n = h
begins_joined ps (l ∷ []) [] h n = absurd (omega arith)
begins_joined ps (l ∷ []) (c ∷ o) h n = (h.0, h.1, h.2, h.3, begins_joined h.1 [] (c ∷ o) h.4 n)
begins_joined ps (l ∷ m ∷ fs) [] h n = absurd (omega arith)
begins_joined ps (l ∷ m ∷ fs) (c ∷ o) h n = (h.0, h.1, h.2, h.3, begins_joined h.1 (m ∷ fs) (c ∷ o) h.4 n)

pub begins_joined_dot : (ps : List NameSymbol) (l : List ℕ) (fs : List (List ℕ)) → IsTextSoFar ps (l ∷ fs) [] → (text : List NameSymbol) × Joined text (l ∷ fs) × (ps ≡ text ++ Dot ∷ [])
begins_joined_dot ps l [] h = (h.0, h.2, h.3 ∙ ap (λ (x : List NameSymbol). h.0 ++ Dot ∷ x) h.4)
begins_joined_dot ps l (m ∷ fs) h =
    let k = begins_joined_dot h.1 m fs h.4 in
    (h.0 ++ Dot ∷ k.0, (h.0, k.0, h.2, refl, k.1), h.3 ∙ ap (λ (x : List NameSymbol). h.0 ++ Dot ∷ x) k.2 ∙ sym (append_assoc h.0 (Dot ∷ k.0) (Dot ∷ [])))

pub begins_texts : (ps : List NameSymbol) (fs : List (List ℕ)) (o : List ℕ) → IsTextSoFar ps fs o → 0 < length ps → AreLabelTexts ps (closed_with fs o)
begins_texts ps [] [] h n = let k : length ps ≡ length {A = NameSymbol} [] = ap length h in absurd (omega (arith, k, n))
begins_texts ps (l ∷ fs) [] h n = let k = begins_joined_dot ps l fs h in record { some = omega arith; text = k.0; joined = k.1; dot = inr k.2 }
begins_texts ps fs (c ∷ o) h n = record { some = omega (arith, length-append fs ((c ∷ o) ∷ [])); text = ps; joined = begins_joined ps fs (c ∷ o) h (omega arith); dot = inl refl }

pub texts_begin : (ps : List NameSymbol) (ls : List (List ℕ)) → AreLabelTexts ps ls → Ends ps ls
texts_begin ps ls t = at t.dot
  where
    at : (ps ≡ t.text) ⊎ (ps ≡ t.text ++ Dot ∷ []) → Ends ps ls
    at (inl e) = subst (λ (x : List NameSymbol). Ends x ls) (sym e) (joined_begins t.text ls t.joined)
    at (inr e) = subst (λ (x : List NameSymbol). Ends x ls) (sym e) (record { built = built ls []; begins = begins_dotted t.text ls t.joined t.some; labels = refl })

pub joined_open : (text : List NameSymbol) (ls : List (List ℕ)) (h : Joined text ls) → 0 < length ls → 0 < length (joined_begins text ls h).built.open_label
unfolding joined_begins
joined_open text [] h n = absurd (omega arith)
joined_open text (l ∷ []) h n = label_some text l h
joined_open text (l ∷ m ∷ ls) h n = joined_open h.1 (m ∷ ls) h.4 (omega arith)
