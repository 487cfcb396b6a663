-- What is read of a text, one part after another.
use Rattle.std.proofs.Common.{◌≡◌, ◌≢◌, ℕ, List, [], ◌∷◌, ◌++◌, length, map, Some, None, Result, Ok, Err, true, false, inl, refl, ap, sym, ◌∙◌, subst, arith, append_assoc, append-nil, MatchResult, nat_lt}
use Rattle.std.proofs.lemmas.Bool.{ltb-true, ltb-false}
use Rattle.domain_label.specs.Wire.{Root}
use Rattle.domain_label.specs.declared.symbol.Symbol.{Symbol}
use Rattle.domain_label.specs.declared.symbol.SymbolCharsError.{SymbolCharsError}
use Rattle.domain_text.specs.BuilderState.{BuilderState, empty_state, closed, closed_with, symbol_fault, after, Makes, StopsAt}
use Rattle.domain_text.specs.NameSymbols.{name_symbol, name_symbols, symbol_in_name, symbols_in_name}
use Rattle.domain_text.specs.TextGrammar.{IsNameText, NotANameText, IsRelativeText, EndsInDot, FirstFault}
use Rattle.domain_text.specs.declared.name_symbol.TextFault.{TextFault}
use Rattle.domain_text.specs.declared.name_symbol.TextFault.TheVariants.{ShortInput, EmptyLabel}
use Rattle.domain_text.specs.declared.name_symbol.NameSymbol.{NameSymbol}
use Rattle.domain_text.specs.declared.name_symbol.NameSymbol.TheVariants.{Dot}
use Rattle.domain_text.proofs.Grammar.{makes-append}
use Rattle.domain_text.proofs.OneOutcome.{made_name, stopped_name, stops_first, made_relative, made_empty, made_dotted}
use Rattle.domain_text.proofs.Sizes.{built}

abbrev pub Item : Type 0
Item = Result Symbol SymbolCharsError

pub parts-append : (xs ys : List Item) → name_symbols (xs ++ ys) ≡ name_symbols xs ++ name_symbols ys
parts-append [] ys = refl
parts-append (x ∷ xs) ys = ap (λ (z : List NameSymbol). name_symbol x ∷ z) (parts-append xs ys)

-- How far the reading of the items all has come: what was read made m of b, and rest is left.
pub record IsRead (all rest : List Item) (b m : BuilderState) : Type 0 where
  pub done : List Item
  pub items : all ≡ done ++ rest
  pub made : Makes b (name_symbols done) m

pub read_none : (all : List Item) (b : BuilderState) → IsRead all all b b
read_none all b = record { done = []; items = refl; made = refl }

pub read_more : (all rest more : List Item) (x : Item) (b m n : BuilderState) → IsRead all rest b m → rest ≡ x ∷ more → symbol_fault m (name_symbol x) ≡ None → n ≡ after m (name_symbol x) → IsRead all more b n
read_more all rest more x b m n r e t a = record {
  done = r.done ++ x ∷ [];
  items = r.items ∙ ap (λ (z : List Item). r.done ++ z) e ∙ sym (append_assoc r.done (x ∷ []) more);
  made = subst (λ (z : List NameSymbol). Makes b z n) (sym (parts-append r.done (x ∷ []))) (makes-append (name_symbols r.done) (name_symbol x ∷ []) b m n r.made (t, a));
}

pub whole_parts : (all rest more : List Item) (x : Item) (done : List Item) → all ≡ done ++ rest → rest ≡ x ∷ more → name_symbols all ≡ name_symbols done ++ name_symbol x ∷ name_symbols more
whole_parts all rest more x done i e = ap name_symbols (i ∙ ap (λ (z : List Item). done ++ z) e) ∙ parts-append done (x ∷ more)

pub read_stops : (all rest more : List Item) (x : Item) (b m n : BuilderState) (f : TextFault) → IsRead all rest b m → rest ≡ x ∷ more → symbol_fault m (name_symbol x) ≡ Some f → n ≡ m → StopsAt b (name_symbols all) n f
read_stops all rest more x b m n f r e t k = record {
  before = name_symbols r.done;
  part = name_symbol x;
  rest = name_symbols more;
  parts = whole_parts all rest more x r.done r.items e;
  made = subst (λ (z : BuilderState). Makes b (name_symbols r.done) z) (sym k) r.made;
  refused = ap (λ (z : BuilderState). symbol_fault z (name_symbol x)) k ∙ t;
}

pub read_all : (all rest : List Item) (b m : BuilderState) → IsRead all rest b m → rest ≡ [] → Makes b (name_symbols all) m
read_all all rest b m r e = subst (λ (z : List Item). Makes b (name_symbols z) m) (sym (r.items ∙ ap (λ (z : List Item). r.done ++ z) e ∙ append-nil r.done)) r.made

-- ---- the outcomes of an absolute name

pub name_empty : (all : List Item) → all ≡ [] → NotANameText (name_symbols all) ShortInput
name_empty all e = inl (ap name_symbols e, refl)

-- a dot alone, and one with anything after it
pub name_dot : (all rest : List Item) (x : Item) (b : BuilderState) → b ≡ empty_state → all ≡ x ∷ rest → rest ≡ [] → name_symbol x ≡ Dot → IsNameText (name_symbols all) (closed b ++ Root)
name_dot all rest x b n e r d = inl (ap name_symbols (e ∙ ap (λ (z : List Item). x ∷ z) r) ∙ ap (λ (p : NameSymbol). p ∷ []) d, ap (λ (z : BuilderState). closed z ++ Root) n)

pub name_dot_first : (all rest more : List Item) (x y : Item) → all ≡ x ∷ rest → rest ≡ y ∷ more → name_symbol x ≡ Dot → NotANameText (name_symbols all) EmptyLabel
name_dot_first all rest more x y e r d =
    let whole : name_symbols all ≡ Dot ∷ name_symbol y ∷ name_symbols more = ap name_symbols (e ∙ ap (λ (z : List Item). x ∷ z) r) ∙ ap (λ (p : NameSymbol). p ∷ name_symbol y ∷ name_symbols more) d in
    stopped_name (name_symbols all) empty_state EmptyLabel (λ alone. absurd (cc (whole, alone)))
    (record { before = []; part = Dot; rest = name_symbol y ∷ name_symbols more; parts = whole; made = refl; refused = refl })

not_dot : (ps qs : List NameSymbol) (p : NameSymbol) → ps ≡ p ∷ qs → p ≢ Dot → ps ≢ Dot ∷ []
not_dot ps qs p e other alone = let same : p ≡ Dot = cc in other same

-- the first part refused, and what comes of those after it
pub name_first_refused : (all rest : List Item) (x : Item) (b : BuilderState) (f : TextFault) → b ≡ empty_state → all ≡ x ∷ rest → name_symbol x ≢ Dot → symbol_fault b (name_symbol x) ≡ Some f → NotANameText (name_symbols all) f
name_first_refused all rest x b f n e other r =
    stopped_name (name_symbols all) empty_state f (not_dot (name_symbols all) (name_symbols rest) (name_symbol x) (ap name_symbols e) other)
    (record { before = []; part = name_symbol x; rest = name_symbols rest; parts = ap name_symbols e; made = refl; refused = ap (λ (z : BuilderState). symbol_fault z (name_symbol x)) (sym n) ∙ r })

pub name_read : (all rest : List Item) (x : Item) (b m n : BuilderState) → b ≡ empty_state → all ≡ x ∷ rest → symbol_fault b (name_symbol x) ≡ None → m ≡ after b (name_symbol x) → Makes m (name_symbols rest) n → IsNameText (name_symbols all) (closed n ++ Root)
name_read all rest x b m n e h t a g =
    let made : Makes empty_state (name_symbol x ∷ name_symbols rest) n = (ap (λ (z : BuilderState). symbol_fault z (name_symbol x)) (sym e) ∙ t, subst (λ (z : BuilderState). Makes z (name_symbols rest) n) (a ∙ ap (λ (z : BuilderState). after z (name_symbol x)) e) g) in
    subst (λ (z : List Item). IsNameText (name_symbols z) (closed n ++ Root)) (sym h) (made_name (name_symbol x ∷ name_symbols rest) n (omega arith) made)

pub name_stops : (all rest : List Item) (x : Item) (b m n : BuilderState) (f : TextFault) → b ≡ empty_state → all ≡ x ∷ rest → name_symbol x ≢ Dot → symbol_fault b (name_symbol x) ≡ None → m ≡ after b (name_symbol x) → StopsAt m (name_symbols rest) n f → NotANameText (name_symbols all) f
name_stops all rest x b m n f e h other t a s =
    stopped_name (name_symbols all) n f (not_dot (name_symbols all) (name_symbols rest) (name_symbol x) (ap name_symbols h) other)
    (record {
      before = name_symbol x ∷ s.before;
      part = s.part;
      rest = s.rest;
      parts = ap name_symbols h ∙ ap (λ (z : List NameSymbol). name_symbol x ∷ z) s.parts;
      made = (ap (λ (z : BuilderState). symbol_fault z (name_symbol x)) (sym e) ∙ t, subst (λ (z : BuilderState). Makes z s.before n) (a ∙ ap (λ (z : BuilderState). after z (name_symbol x)) e) s.made);
      refused = s.refused;
    })

pub name_rest : (all rest : List Item) (x : Item) (b m n : BuilderState) (r : Result (Unit {0}) TextFault) → b ≡ empty_state → all ≡ x ∷ rest → name_symbol x ≢ Dot → symbol_fault b (name_symbol x) ≡ None → m ≡ after b (name_symbol x) → MatchResult r (λ _. Makes m (name_symbols rest) n) (λ f. StopsAt m (name_symbols rest) n f) → MatchResult r (λ _. IsNameText (name_symbols all) (closed n ++ Root)) (λ f. NotANameText (name_symbols all) f)
name_rest all rest x b m n (Ok u) e h other t a g = name_read all rest x b m n e h t a g
name_rest all rest x b m n (Err f) e h other t a s = name_stops all rest x b m n f e h other t a s

-- ---- the outcomes of a relative name

-- parts that are read into an empty buffer
pub from_nothing : (ps : List NameSymbol) (b m : BuilderState) (r : Result (Unit {0}) TextFault) → b ≡ empty_state → MatchResult r (λ _. Makes b ps m) (λ f. StopsAt b ps m f) → MatchResult r (λ _. Makes empty_state ps m) (λ f. (k : BuilderState) × StopsAt empty_state ps k f)
from_nothing ps b m (Ok u) e g = subst (λ (z : BuilderState). Makes z ps m) e g
from_nothing ps b m (Err f) e s = (m, subst (λ (z : BuilderState). StopsAt z ps m f) e s)

pub relative_stops : (ps : List NameSymbol) (f : TextFault) → (m : BuilderState) × StopsAt empty_state ps m f → FirstFault ps f
relative_stops ps f s = stops_first ps s.0 f s.1

pub relative_open : (ps : List NameSymbol) (m : BuilderState) → Makes empty_state ps m → nat_lt 0 (length m.open_label) ≡ true → IsRelativeText ps (closed m)
relative_open ps m g t = made_relative ps m.labels m.open_label g (ltb-true 0 (length m.open_label) t)

pub relative_dotted : (ps : List NameSymbol) (m : BuilderState) → Makes empty_state ps m → nat_lt 0 (length m.open_label) ≡ false → nat_lt 0 (length m.labels) ≡ true → EndsInDot ps
relative_dotted ps m g t u = at m.labels m.open_label g t u
  where
    at : (ls : List (List ℕ)) (o : List ℕ) → Makes empty_state ps (built ls o) → nat_lt 0 (length o) ≡ false → nat_lt 0 (length ls) ≡ true → EndsInDot ps
    at [] [] h t u = absurd (let k = ltb-true 0 (length {A = List ℕ} []) u in omega (arith, k))
    at (l ∷ ls) [] h t u = made_dotted ps l ls h
    at ls (c ∷ o) h t u = absurd (let k = ltb-false 0 (length (c ∷ o)) t in omega (arith, k))

pub relative_empty : (ps : List NameSymbol) (m : BuilderState) → Makes empty_state ps m → nat_lt 0 (length m.open_label) ≡ false → nat_lt 0 (length m.labels) ≡ false → IsRelativeText ps (closed m)
relative_empty ps m g t u = at m.labels m.open_label g t u
  where
    at : (ls : List (List ℕ)) (o : List ℕ) → Makes empty_state ps (built ls o) → nat_lt 0 (length o) ≡ false → nat_lt 0 (length ls) ≡ false → IsRelativeText ps (closed_with ls o)
    at [] [] h t u = made_empty ps h
    at (l ∷ ls) o h t u = absurd (let k = ltb-false 0 (length (l ∷ ls)) u in omega (arith, k))
    at [] (c ∷ o) h t u = absurd (let k = ltb-false 0 (length (c ∷ o)) t in omega (arith, k))

-- ---- symbols that were read already

pub whole_parts_of : (ss : List Symbol) → name_symbols (map Ok ss) ≡ symbols_in_name ss
whole_parts_of [] = refl
whole_parts_of (s ∷ ss) = ap (λ (z : List NameSymbol). symbol_in_name s ∷ z) (whole_parts_of ss)
