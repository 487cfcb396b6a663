-- Each text has one outcome.
use Rattle.std.proofs.Common.{◌≡◌, ◌≢◌, ℕ, ◌+◌, ◌<◌, ◌≤◌, ◌⊎◌, inl, inr, List, [], ◌∷◌, ◌++◌, length, Option, Some, None, refl, ap, sym, ◌∙◌, subst, arith}
use Rattle.domain_label.specs.Wire.{wire, Root}
use Rattle.domain_text.specs.BuilderState.{BuilderState, empty_state, closed_with, closed, symbol_fault, after, Makes, StopsAt}
use Rattle.domain_text.specs.TextGrammar.{AreLabelTexts, IsNameText, IsRelativeText, IsTextSoFar, FirstFault, NotANameText, EndsInDot, NoRelative}
use Rattle.domain_text.specs.Laws.{OneName, OneRelative, AppendsByGrammar}
use Rattle.domain_text.specs.declared.name_symbol.TextFault.{TextFault}
use Rattle.domain_text.specs.declared.name_symbol.TextFault.TheVariants.{ShortInput}
use Rattle.domain_text.specs.declared.name_symbol.NameSymbol.{NameSymbol}
use Rattle.domain_text.specs.declared.name_symbol.NameSymbol.TheVariants.{Dot, Octet, Bracket, Nothing}
use Rattle.domain_text.proofs.Sizes.{built, length-wire_append}
use Rattle.domain_text.proofs.Grammar.{makes_one, begins_made, made_begins, begins_joined, begins_joined_dot, begins_texts, begins_dotted, texts_begin, joined_begins, joined_open}

-- ---- parts in turn stop at one place at most

stops_same : (before : List NameSymbol) (p : NameSymbol) (rest others : List NameSymbol) (q : NameSymbol) (more : List NameSymbol) (b m n : BuilderState) (f g : TextFault) → before ++ p ∷ rest ≡ others ++ q ∷ more → Makes b before m → symbol_fault m p ≡ Some f → Makes b others n → symbol_fault n q ≡ Some g → f ≡ g
stops_same [] p rest [] q more b m n f g e i x j y =
    let same : p ≡ q = cc in
    let k : Some f ≡ Some g = sym x ∙ ap (λ (z : BuilderState). symbol_fault z p) i ∙ ap (symbol_fault b) same ∙ ap (λ (z : BuilderState). symbol_fault z q) (sym j) ∙ y in
    cc
stops_same [] p rest (r ∷ others) q more b m n f g e i x j y =
    let same : p ≡ r = cc in
    let k : Some f ≡ None = sym x ∙ ap (λ (z : BuilderState). symbol_fault z p) i ∙ ap (symbol_fault b) same ∙ j.0 in
    absurd (cc k)
stops_same (r ∷ before) p rest [] q more b m n f g e i x j y =
    let same : q ≡ r = cc in
    let k : Some g ≡ None = sym y ∙ ap (λ (z : BuilderState). symbol_fault z q) j ∙ ap (symbol_fault b) same ∙ i.0 in
    absurd (cc k)
stops_same (r ∷ before) p rest (s ∷ others) q more b m n f g e i x j y =
    let same : s ≡ r = cc in
    let tails : before ++ p ∷ rest ≡ others ++ q ∷ more = cc in
    stops_same before p rest others q more (after b r) m n f g tails i.1 x (subst (λ (z : NameSymbol). Makes (after b z) others n) same j.1) y

pub one_stop : (ps : List NameSymbol) (b m n : BuilderState) (f g : TextFault) → StopsAt b ps m f → StopsAt b ps n g → f ≡ g
one_stop ps b m n f g s t = stops_same s.before s.part s.rest t.before t.part t.rest b m n f g (sym s.parts ∙ t.parts) s.made s.refused t.made t.refused

stops_made : (before : List NameSymbol) (p : NameSymbol) (rest others : List NameSymbol) (q : NameSymbol) (more : List NameSymbol) (b m n : BuilderState) (f g : TextFault) → before ++ p ∷ rest ≡ others ++ q ∷ more → Makes b before m → symbol_fault m p ≡ Some f → Makes b others n → symbol_fault n q ≡ Some g → m ≡ n
stops_made [] p rest [] q more b m n f g e i x j y = i ∙ sym j
stops_made [] p rest (r ∷ others) q more b m n f g e i x j y =
    let same : p ≡ r = cc in
    let k : Some f ≡ None = sym x ∙ ap (λ (z : BuilderState). symbol_fault z p) i ∙ ap (symbol_fault b) same ∙ j.0 in
    absurd (cc k)
stops_made (r ∷ before) p rest [] q more b m n f g e i x j y =
    let same : q ≡ r = cc in
    let k : Some g ≡ None = sym y ∙ ap (λ (z : BuilderState). symbol_fault z q) j ∙ ap (symbol_fault b) same ∙ i.0 in
    absurd (cc k)
stops_made (r ∷ before) p rest (s ∷ others) q more b m n f g e i x j y =
    let same : s ≡ r = cc in
    let tails : before ++ p ∷ rest ≡ others ++ q ∷ more = cc in
    stops_made before p rest others q more (after b r) m n f g tails i.1 x (subst (λ (z : NameSymbol). Makes (after b z) others n) same j.1) y

pub stops_at_one : (ps : List NameSymbol) (b m n : BuilderState) (f g : TextFault) → StopsAt b ps m f → StopsAt b ps n g → m ≡ n
stops_at_one ps b m n f g s t = stops_made s.before s.part s.rest t.before t.part t.rest b m n f g (sym s.parts ∙ t.parts) s.made s.refused t.made t.refused

made_no_stop : (ps before : List NameSymbol) (p : NameSymbol) (rest : List NameSymbol) (b m n : BuilderState) (f : TextFault) → ps ≡ before ++ p ∷ rest → Makes b ps m → Makes b before n → symbol_fault n p ≡ Some f → ⊥
made_no_stop [] [] p rest b m n f e g i x = cc
made_no_stop [] (q ∷ before) p rest b m n f e g i x = cc
made_no_stop (r ∷ ps) [] p rest b m n f e g i x =
    let same : p ≡ r = cc in
    let k : Some f ≡ None = sym x ∙ ap (λ (z : BuilderState). symbol_fault z p) i ∙ ap (symbol_fault b) same ∙ g.0 in
    cc k
made_no_stop (r ∷ ps) (q ∷ before) p rest b m n f e g i x =
    let same : r ≡ q = cc in
    let tails : ps ≡ before ++ p ∷ rest = cc in
    made_no_stop ps before p rest (after b q) m n f tails (subst (λ (z : NameSymbol). Makes (after b z) ps m) same g.1) i.1 x

pub made_or_stopped : (ps : List NameSymbol) (b m n : BuilderState) (f : TextFault) → Makes b ps m → StopsAt b ps n f → ⊥
made_or_stopped ps b m n f g s = made_no_stop ps s.before s.part s.rest b m n f s.parts g s.made s.refused

pub run : (ps : List NameSymbol) (b : BuilderState) → ((m : BuilderState) × Makes b ps m) ⊎ ((m : BuilderState) × (f : TextFault) × StopsAt b ps m f)
run [] b = inl (b, refl)
run (p ∷ ps) b = at (symbol_fault b p) refl (run ps (after b p))
  where
    at : (o : Option TextFault) → symbol_fault b p ≡ o → ((m : BuilderState) × Makes (after b p) ps m) ⊎ ((m : BuilderState) × (f : TextFault) × StopsAt (after b p) ps m f) → ((m : BuilderState) × Makes b (p ∷ ps) m) ⊎ ((m : BuilderState) × (f : TextFault) × StopsAt b (p ∷ ps) m f)
    at (Some f) e r = inr (b, f, record { before = []; part = p; rest = ps; parts = refl; made = refl; refused = e })
    at None e (inl r) = inl (r.0, (e, r.1))
    at None e (inr r) = inr (r.0, r.1, record { before = p ∷ r.2.before; part = r.2.part; rest = r.2.rest; parts = ap (λ (x : List NameSymbol). p ∷ x) r.2.parts; made = (e, r.2.made); refused = r.2.refused })

-- ---- the first fault of a text is where its parts stop

pub first_stops : (ps : List NameSymbol) (f : TextFault) → FirstFault ps f → (b : BuilderState) × StopsAt empty_state ps b f
first_stops ps f h = (h.built, record { before = h.before; part = h.part; rest = h.rest; parts = h.whole; made = begins_made h.before h.built h.begins h.short; refused = h.refused })

pub stops_first : (ps : List NameSymbol) (b : BuilderState) (f : TextFault) → StopsAt empty_state ps b f → FirstFault ps f
stops_first ps b f s =
    let k = made_begins s.before b s.made in
    record { before = s.before; part = s.part; rest = s.rest; whole = s.parts; built = b; begins = k.0; short = k.1; refused = s.refused }

pub appends_by_grammar : (ps : List NameSymbol) → AppendsByGrammar ps
appends_by_grammar ps = (λ b. (λ g. made_begins ps b g, λ h. begins_made ps b h.0 h.1), λ f. (λ s. stops_first ps s.0 f s.1, λ h. first_stops ps f h))

-- ---- absolute names

pub size_root : (ls : List (List ℕ)) → length (wire (ls ++ Root)) ≡ length (wire ls) + 1
size_root ls = length-wire_append ls Root

-- the texts of labels are what is made
pub texts_made : (ps : List NameSymbol) (ls : List (List ℕ)) → AreLabelTexts ps ls → length (wire ls) ≤ 254 → (b : BuilderState) × Makes empty_state ps b × (closed b ≡ ls)
texts_made ps ls t n =
    let k = texts_begin ps ls t in
    (k.built, begins_made ps k.built k.begins (subst (λ (x : List (List ℕ)). length (wire x) ≤ 254) (sym k.labels) n), k.labels)

pub made_name : (ps : List NameSymbol) (b : BuilderState) → 0 < length ps → Makes empty_state ps b → IsNameText ps (closed b ++ Root)
made_name ps b some g =
    let k = made_begins ps b g in
    inr (closed b, begins_texts ps b.labels b.open_label k.0 some, refl, omega (arith, size_root (closed b), k.1))

pub stopped_name : (ps : List NameSymbol) (b : BuilderState) (f : TextFault) → ps ≢ Dot ∷ [] → StopsAt empty_state ps b f → NotANameText ps f
stopped_name ps b f other s = inr (other, stops_first ps b f s)

no_first : (f : TextFault) → FirstFault [] f → ⊥
no_first f h = at h.before h.whole
  where
    at : (before : List NameSymbol) → [] ≡ before ++ h.part ∷ h.rest → ⊥
    at [] e = cc
    at (p ∷ before) e = cc

name_made : (ps : List NameSymbol) (ls : List (List ℕ)) → ps ≢ Dot ∷ [] → IsNameText ps ls → (b : BuilderState) × Makes empty_state ps b × (closed b ++ Root ≡ ls)
name_made ps ls other (inl h) = absurd (other h.0)
name_made ps ls other (inr h) =
    let n : length (wire h.0) ≤ 254 = omega (arith, size_root h.0, ap (λ (x : List (List ℕ)). length (wire x)) h.2, h.3) in
    let k = texts_made ps h.0 h.1 n in
    (k.0, k.1, ap (λ (x : List (List ℕ)). x ++ Root) k.2 ∙ sym h.2)

nothing_made : (b : BuilderState) → Makes empty_state [] b → closed b ++ Root ≡ Root
nothing_made b e = ap (λ (x : BuilderState). closed x ++ Root) e

fault_stops : (ps : List NameSymbol) (f : TextFault) → 0 < length ps → NotANameText ps f → (b : BuilderState) × StopsAt empty_state ps b f
fault_stops ps f some (inl h) = let k : length ps ≡ length {A = NameSymbol} [] = ap length h.0 in absurd (omega (arith, k, some))
fault_stops ps f some (inr h) = first_stops ps f h.1

other_name : (ps : List NameSymbol) → 0 < length ps → ps ≢ Dot ∷ [] → OneName ps
other_name ps some other = at (run ps empty_state)
  where
    at : ((m : BuilderState) × Makes empty_state ps m) ⊎ ((m : BuilderState) × (f : TextFault) × StopsAt empty_state ps m f) → OneName ps
    at (inl r) = inl (
      (closed r.0 ++ Root, made_name ps r.0 some r.1, λ ls h. let k = name_made ps ls other h in sym k.2 ∙ ap (λ (x : BuilderState). closed x ++ Root) (makes_one ps empty_state k.0 r.0 k.1 r.1)),
      λ f h. let k = fault_stops ps f some h in made_or_stopped ps empty_state r.0 k.0 f r.1 k.1,
    )
    at (inr r) = inr (
      (r.1, stopped_name ps r.0 r.1 other r.2, λ g h. let k = fault_stops ps g some h in one_stop ps empty_state k.0 r.0 g r.1 k.1 r.2),
      λ ls h. let k = name_made ps ls other h in made_or_stopped ps empty_state k.0 r.0 r.1 k.1 r.2,
    )

empty_made : (ls : List (List ℕ)) → AreLabelTexts [] ls → ⊥
empty_made ls t =
    let k = texts_begin [] ls t in
    at k.built.labels k.built.open_label k.begins (subst (λ (x : List (List ℕ)). 0 < length x) (sym k.labels) t.some)
  where
    cut : (a b : List NameSymbol) → [] ≡ a ++ Dot ∷ b → ⊥
    cut [] b e = cc
    cut (p ∷ a) b e = cc

    at : (fs : List (List ℕ)) (o : List ℕ) → IsTextSoFar [] fs o → 0 < length (closed_with fs o) → ⊥
    at [] [] h n = omega (arith, n)
    at [] (c ∷ o) h n = h.start
    at (l ∷ fs) o h n = cut h.0 h.1 h.3

dot_stops : (b : BuilderState) → Makes empty_state (Dot ∷ []) b → ⊥
dot_stops b g = cc g.0

pub one_name : (ps : List NameSymbol) → OneName ps
one_name [] = inr ((ShortInput, inl (refl, refl), λ g h. at g h), λ ls h. no ls h)
  where
    at : (g : TextFault) → NotANameText [] g → g ≡ ShortInput
    at g (inl h) = h.1
    at g (inr h) = absurd (no_first g h.1)

    no : (ls : List (List ℕ)) → IsNameText [] ls → ⊥
    no ls (inl h) = cc h.0
    no ls (inr h) = empty_made h.0 h.1
one_name (Dot ∷ []) = inl ((Root, inl (refl, refl), λ ls h. at ls h), λ f h. no f h)
  where
    at : (ls : List (List ℕ)) → IsNameText (Dot ∷ []) ls → ls ≡ Root
    at ls (inl h) = h.1
    at ls (inr h) =
        let n : length (wire h.0) ≤ 254 = omega (arith, size_root h.0, ap (λ (x : List (List ℕ)). length (wire x)) h.2, h.3) in
        let k = texts_made (Dot ∷ []) h.0 h.1 n in
        absurd (dot_stops k.0 k.1)

    no : (f : TextFault) → NotANameText (Dot ∷ []) f → ⊥
    no f (inl h) = cc h.0
    no f (inr h) = h.0 refl
one_name (Dot ∷ p ∷ ps) = other_name (Dot ∷ p ∷ ps) (omega arith) (λ e. cc e)
one_name (Octet c ∷ ps) = other_name (Octet c ∷ ps) (omega arith) (λ e. cc e)
one_name (Bracket ∷ ps) = other_name (Bracket ∷ ps) (omega arith) (λ e. cc e)
one_name (Nothing f ∷ ps) = other_name (Nothing f ∷ ps) (omega arith) (λ e. cc e)

-- ---- relative names

relative_made : (ps : List NameSymbol) (ls : List (List ℕ)) → IsRelativeText ps ls → (b : BuilderState) × Makes empty_state ps b × (closed b ≡ ls) × (0 < length ls → 0 < length b.open_label)
relative_made ps ls h =
    let k = joined_begins ps ls h.0 in
    (k.built, begins_made ps k.built k.begins (subst (λ (x : List (List ℕ)). length (wire x) ≤ 254) (sym k.labels) h.1), k.labels, joined_open ps ls h.0)

dotted_made : (ps : List NameSymbol) (h : EndsInDot ps) → Makes empty_state ps (built h.labels [])
dotted_made ps h = begins_made ps (built h.labels []) (subst (λ (x : List NameSymbol). IsTextSoFar x h.labels []) (sym h.dot) (begins_dotted h.text h.labels h.joined h.some)) h.short

-- what is made is a relative text, or one that ends in a dot
pub made_relative : (ps : List NameSymbol) (ls : List (List ℕ)) (o : List ℕ) → Makes empty_state ps (built ls o) → 0 < length o → IsRelativeText ps (closed_with ls o)
made_relative ps ls o g some = let k = made_begins ps (built ls o) g in (begins_joined ps ls o k.0 some, k.1)

pub made_empty : (ps : List NameSymbol) → Makes empty_state ps empty_state → IsRelativeText ps []
made_empty ps g = let k = made_begins ps empty_state g in (k.0, omega arith)

pub made_dotted : (ps : List NameSymbol) (l : List ℕ) (ls : List (List ℕ)) → Makes empty_state ps (built (l ∷ ls) []) → EndsInDot ps
made_dotted ps l ls g =
    let k = made_begins ps (built (l ∷ ls) []) g in
    let j = begins_joined_dot ps l ls k.0 in
    record { labels = l ∷ ls; some = omega arith; text = j.0; joined = j.1; short = k.1; dot = j.2 }

one_relative_of : (ps : List NameSymbol) (b : BuilderState) → Makes empty_state ps b → IsRelativeText ps (closed b) → ((h : EndsInDot ps) → ⊥) → OneRelative ps
one_relative_of ps b g text other = inl ((closed b, text, λ ls h. let k = relative_made ps ls h in sym k.2 ∙ ap closed (makes_one ps empty_state k.0 b k.1 g)), no)
  where
    no : (why : Option TextFault) → NoRelative ps why → ⊥
    no (Some f) h = let k = first_stops ps f h in made_or_stopped ps empty_state b k.0 f g k.1
    no None h = other h

pub one_relative : (ps : List NameSymbol) → OneRelative ps
one_relative ps = at (run ps empty_state)
  where
    open_one : (ls : List (List ℕ)) (c : ℕ) (o : List ℕ) → Makes empty_state ps (built ls (c ∷ o)) → EndsInDot ps → ⊥
    open_one ls c o g h = let e : c ∷ o ≡ [] = ap (λ (x : BuilderState). x.open_label) (makes_one ps empty_state (built ls (c ∷ o)) (built h.labels []) g (dotted_made ps h)) in cc e

    none_one : Makes empty_state ps empty_state → EndsInDot ps → ⊥
    none_one g h = let e : h.labels ≡ [] = ap (λ (x : BuilderState). x.labels) (makes_one ps empty_state (built h.labels []) empty_state (dotted_made ps h) g) in omega (arith, h.some, ap length e)

    dotted : (l : List ℕ) (ls : List (List ℕ)) → Makes empty_state ps (built (l ∷ ls) []) → OneRelative ps
    dotted l ls g = inr ((None, made_dotted ps l ls g, λ why h. same why h), λ ks h. no ks h (relative_made ps ks h))
      where
        same : (why : Option TextFault) → NoRelative ps why → why ≡ None
        same (Some f) h = let k = first_stops ps f h in absurd (made_or_stopped ps empty_state (built (l ∷ ls) []) k.0 f g k.1)
        same None h = refl

        no : (ks : List (List ℕ)) → IsRelativeText ps ks → (b : BuilderState) × Makes empty_state ps b × (closed b ≡ ks) × (0 < length ks → 0 < length b.open_label) → ⊥
        no ks h k =
            let e : k.0 ≡ built (l ∷ ls) [] = makes_one ps empty_state k.0 (built (l ∷ ls) []) k.1 g in
            let c : l ∷ ls ≡ ks = ap closed (sym e) ∙ k.2 in
            let o : length k.0.open_label ≡ length {A = ℕ} [] = ap (λ (x : BuilderState). length x.open_label) e in
            let some : 0 < length ks = omega (arith, ap length c) in
            omega (arith, o, k.3 some)

    made : (ls : List (List ℕ)) (o : List ℕ) → Makes empty_state ps (built ls o) → OneRelative ps
    made [] [] g = one_relative_of ps empty_state g (made_empty ps g) (λ h. none_one g h)
    made (l ∷ ls) [] g = dotted l ls g
    made ls (c ∷ o) g = one_relative_of ps (built ls (c ∷ o)) g (made_relative ps ls (c ∷ o) g (omega arith)) (λ h. open_one ls c o g h)

    stopped : (b : BuilderState) (f : TextFault) → StopsAt empty_state ps b f → OneRelative ps
    stopped b f s = inr ((Some f, stops_first ps b f s, λ why h. same why h), λ ls h. let k = relative_made ps ls h in made_or_stopped ps empty_state k.0 b f k.1 s)
      where
        same : (why : Option TextFault) → NoRelative ps why → why ≡ Some f
        same (Some g) h = let k = first_stops ps g h in ap Some (one_stop ps empty_state k.0 b g f k.1 s)
        same None h = absurd (made_or_stopped ps empty_state (built h.labels []) b f (dotted_made ps h) s)

    at : ((m : BuilderState) × Makes empty_state ps m) ⊎ ((m : BuilderState) × (f : TextFault) × StopsAt empty_state ps m f) → OneRelative ps
    at (inl r) = made r.0.labels r.0.open_label r.1
    at (inr r) = stopped r.0 r.1 r.2
