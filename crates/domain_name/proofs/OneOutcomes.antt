-- Where 254 octets fit, calls of a builder have one outcome.
use Rattle.std.proofs.Common.{◌≡◌, ◌≢◌, ℕ, ◌+◌, ◌<◌, ◌≤◌, ◌%◌, ◌⊎◌, inl, inr, Bool, true, false, leb, Option, Some, None, List, [], ◌∷◌, length, Result, refl, ap, sym, ◌∙◌, subst, arith}
use Rattle.std.proofs.lemmas.Bool.Decides.{leb_tells}
use Rattle.std.specs.Fmt.{decimal, digit_glyph}
use Rattle.std.specs.Str.{chars}
use Rattle.domain_label.specs.Spelling.{JustOne, ReadsSymbols}
use Rattle.domain_label.specs.declared.symbol.Symbol.{Symbol}
use Rattle.domain_label.specs.declared.symbol.SymbolCharsError.{SymbolCharsError}
use Rattle.domain_builder.specs.BuilderState.{BuilderState, size, pushed, ended, labelled, named, unless_open, too_long, symbol_fault, after, Makes, StopsAt, LacksRoom}
use Rattle.domain_builder.specs.Inside.{Held, room}
use Rattle.domain_builder.specs.NameSymbols.{name_symbols, symbol_in_name}
use Rattle.domain_builder.specs.declared.name_symbol.TextFault.{TextFault}
use Rattle.domain_builder.specs.declared.name_symbol.TextFault.TheVariants.{BinaryLabel}
use Rattle.domain_builder.specs.declared.name_symbol.NameSymbol.{NameSymbol}
use Rattle.domain_builder.specs.declared.name_symbol.NameSymbol.TheVariants.{Dot, Octet, Bracket, Nothing}
use Rattle.domain_label.specs.Wire.{wire, labels_in}
use Rattle.domain_builder.proofs.Building.{room_grows, nothing_pushed, labelled_nothing, size_named}
use Rattle.domain_builder.proofs.Sizes.{taken}
use Rattle.domain_builder.proofs.Grammar.{makes_one}
use Rattle.domain_builder.proofs.OneOutcome.{run, made_or_stopped, stops_at_one}
use Rattle.domain_builder.proofs.Outcomes.{items_of, items_read, same_items}
use Rattle.domain_name.specs.Names.{relative_octets, relative_labels}
use Rattle.domain_name.specs.Calls.{Fits, ExceedsLimits, IsTooMuch, Accepted, PassedOver, AppliesAll, OneOutcome}
use Rattle.domain_name.specs.declared.calls.BuilderCall.{BuilderCall}
use Rattle.domain_name.specs.declared.calls.BuilderCall.TheVariants.{Push, PushSymbol, AppendSlice, EndLabel, AppendLabel, AppendDecU8Label, AppendHexDigitLabel, AppendName, AppendChars}

-- ---- what isn't refused for length stays within 254 octets

opened : (o : List ℕ) (x : Option TextFault) → unless_open o (Some BinaryLabel) x ≡ None → x ≡ None
opened [] x h = absurd (cc h)
opened (c ∷ o) x h = h

after_short : (b : BuilderState) (p : NameSymbol) → size b ≤ 254 → symbol_fault b p ≡ None → size (after b p) ≤ 254
after_short b Dot h r = h
after_short b (Octet c) h r = (taken (pushed b (c ∷ [])) r).0
after_short b Bracket h r = (taken (pushed b (91 ∷ [])) (opened b.open_label (too_long (pushed b (91 ∷ []))) r)).0
after_short b (Nothing f) h r = absurd (cc r)

makes_short : (ps : List NameSymbol) (b m : BuilderState) → size b ≤ 254 → Makes b ps m → size m ≤ 254
makes_short [] b m h g = subst (λ (x : BuilderState). size x ≤ 254) (sym g) h
makes_short (p ∷ ps) b m h g = makes_short ps (after b p) m (after_short b p h g.0) g.1

never_lacks : (room : ℕ) (b : BuilderState) (ps : List NameSymbol) (new : BuilderState) → 254 ≤ room → size b ≤ 254 → LacksRoom room b ps new → ⊥
never_lacks room b ps new r h l = omega (arith, r, after_short new l.part (makes_short l.before b new h l.made) l.taken, l.full)

-- ---- one call

-- an accepted call makes m, and one that is passed over leaves n
At : (BuilderState → Type 0) → (BuilderState → Type 0) → BuilderState → Bool → Type 0
At A P m true = A m
At A P m false = P m

record OneStep (A P : BuilderState → Type 0) : Type 0 where
  new : BuilderState
  answer : Bool
  holds : At A P new answer
  short : size new ≤ 254
  only : (m : BuilderState) (r : Bool) → At A P m r → (m ≡ new) × (r ≡ answer)

takes : (A P : BuilderState → Type 0) (new : BuilderState) → A new → size new ≤ 254 → ((m : BuilderState) → A m → m ≡ new) → ((m : BuilderState) → P m → ⊥) → OneStep A P
unfolding At
takes A P new a s same never = record { new = new; answer = true; holds = a; short = s; only = λ m r h. at m r h }
  where
    at : (m : BuilderState) (r : Bool) → At A P m r → (m ≡ new) × (r ≡ true)
    at m true h = (same m h, refl)
    at m false h = absurd (never m h)

passes : (A P : BuilderState → Type 0) (new : BuilderState) → P new → size new ≤ 254 → ((m : BuilderState) → P m → m ≡ new) → ((m : BuilderState) → A m → ⊥) → OneStep A P
unfolding At
passes A P new p s same never = record { new = new; answer = false; holds = p; short = s; only = λ m r h. at m r h }
  where
    at : (m : BuilderState) (r : Bool) → At A P m r → (m ≡ new) × (r ≡ false)
    at m true h = absurd (never m h)
    at m false h = (same m h, refl)

-- a number is within a limit or over it
within : (n k : ℕ) → (n ≤ k) ⊎ (k < n)
within n k = at (leb_tells n k)
  where
    at : ((leb n k ≡ true) × (n ≤ k)) ⊎ ((leb n k ≡ false) × (k < n)) → (n ≤ k) ⊎ (k < n)
    at (inl a) = inl a.1
    at (inr a) = inr a.1

-- a call that makes `made`, where the measure `label` gives the number of octets of a label
labelling : (room : ℕ) (b made : BuilderState) (label : BuilderState → ℕ) → 254 ≤ room → size b ≤ 254 → OneStep (λ m. (m ≡ made) × Fits (label m) (size m)) (λ m. (m ≡ b) × ExceedsLimits room (label made) (size made))
labelling room b made label r s = at (within (label made) 63) (within (size made) 254)
  where
    never : Fits (label made) (size made) → ExceedsLimits room (label made) (size made) → ⊥
    never f (inl e) = omega (arith, f.0, e)
    never f (inr (inl e)) = omega (arith, f.1, e)
    never f (inr (inr e)) = omega (arith, f.1, e, r)

    fit : (m : BuilderState) → (m ≡ made) × Fits (label m) (size m) → Fits (label made) (size made)
    fit m h = subst (λ (x : BuilderState). Fits (label x) (size x)) h.0 h.1

    at : (label made ≤ 63) ⊎ (63 < label made) → (size made ≤ 254) ⊎ (254 < size made) → OneStep (λ m. (m ≡ made) × Fits (label m) (size m)) (λ m. (m ≡ b) × ExceedsLimits room (label made) (size made))
    at (inl l) (inl w) = takes _ _ made (refl, (l, w)) w (λ m h. h.0) (λ m h. never (l, w) h.1)
    at (inr l) w = passes _ _ b (refl, inl l) s (λ m h. h.0) (λ m h. never (fit m h) (inl l))
    at (inl l) (inr w) = passes _ _ b (refl, inr (inl w)) s (λ m h. h.0) (λ m h. never (fit m h) (inr (inl w)))

-- the same where the label can't be long
naming : (room : ℕ) (b made : BuilderState) → 254 ≤ room → size b ≤ 254 → OneStep (λ m. (m ≡ made) × (size m ≤ 254)) (λ m. (m ≡ b) × IsTooMuch room (size made))
naming room b made r s = at (within (size made) 254)
  where
    never : size made ≤ 254 → IsTooMuch room (size made) → ⊥
    never f (inl e) = omega (arith, f, e)
    never f (inr e) = omega (arith, f, e, r)

    at : (size made ≤ 254) ⊎ (254 < size made) → OneStep (λ m. (m ≡ made) × (size m ≤ 254)) (λ m. (m ≡ b) × IsTooMuch room (size made))
    at (inl w) = takes _ _ made (refl, w) w (λ m h. h.0) (λ m h. never w h.1)
    at (inr w) = passes _ _ b (refl, inl w) s (λ m h. h.0) (λ m h. never (subst (λ (x : BuilderState). size x ≤ 254) h.0 h.1) (inl w))

-- the same step in other words
recast : (A P A' P' : BuilderState → Type 0) → OneStep A P → ((m : BuilderState) → A m → A' m) → ((m : BuilderState) → A' m → A m) → ((m : BuilderState) → P m → P' m) → ((m : BuilderState) → P' m → P m) → OneStep A' P'
unfolding At
recast A P A' P' step to back over under = record { new = step.new; answer = step.answer; holds = there step.answer step.holds; short = step.short; only = λ m r h. step.only m r (here m r h) }
  where
    there : (answer : Bool) → At A P step.new answer → At A' P' step.new answer
    there true h = to step.new h
    there false h = over step.new h

    here : (m : BuilderState) (r : Bool) → At A' P' m r → At A P m r
    here m true h = back m h
    here m false h = under m h

-- octets for the open label: none are taken
slicing : (room : ℕ) (b : BuilderState) (s : List ℕ) → 254 ≤ room → size b ≤ 254 → OneStep (λ m. (m ≡ pushed b s) × (0 < length s → Fits (length m.open_label) (size m))) (λ m. (0 < length s) × (m ≡ b) × ExceedsLimits room (length (pushed b s).open_label) (size (pushed b s)))
slicing room b s r small = at (within (length s) 0)
  where
    at : (length s ≤ 0) ⊎ (0 < length s) → OneStep (λ m. (m ≡ pushed b s) × (0 < length s → Fits (length m.open_label) (size m))) (λ m. (0 < length s) × (m ≡ b) × ExceedsLimits room (length (pushed b s).open_label) (size (pushed b s)))
    at (inl none) = takes _ _ (pushed b s) (refl, λ some. absurd (omega (arith, none, some))) (subst (λ (m : BuilderState). size m ≤ 254) (sym (nothing_pushed b s none)) small) (λ m h. h.0) (λ m h. omega (arith, none, h.0))
    at (inr some) = recast _ _ _ _ (labelling room b (pushed b s) (λ m. length m.open_label) r small) (λ m h. (h.0, λ _. h.1)) (λ m h. (h.0, h.1 some)) (λ m h. (some, h.0, h.1)) (λ m h. (h.1, h.2))

-- a label: none is taken, too
adding : (room : ℕ) (b : BuilderState) (s : List ℕ) → 254 ≤ room → size b ≤ 254 → OneStep (λ m. (m ≡ labelled b s) × Fits (length s) (size m)) (λ m. (0 < length s) × (m ≡ b) × ExceedsLimits room (length s) (size (labelled b s)))
adding room b s r small = at (within (length s) 0)
  where
    at : (length s ≤ 0) ⊎ (0 < length s) → OneStep (λ m. (m ≡ labelled b s) × Fits (length s) (size m)) (λ m. (0 < length s) × (m ≡ b) × ExceedsLimits room (length s) (size (labelled b s)))
    at (inl none) =
        let whole : size (labelled b s) ≤ 254 = subst (λ (m : BuilderState). size m ≤ 254) (sym (labelled_nothing b s none)) small in
        takes _ _ (labelled b s) (refl, (omega (arith, none), whole)) whole (λ m h. h.0) (λ m h. omega (arith, none, h.0))
    at (inr some) = recast _ _ _ _ (labelling room b (labelled b s) (λ m. length s) r small) (λ m h. h) (λ m h. h) (λ m h. (some, h.0, h.1)) (λ m h. (h.1, h.2))

-- no octets have no labels
no_labels : (o : List ℕ) → length o ≤ 0 → labels_in o ≡ []
no_labels [] h = refl
no_labels (c ∷ o) h = absurd (omega arith)

-- a name, with labels or without
joining : (room : ℕ) (b : BuilderState) (o : List ℕ) → 254 ≤ room → size b ≤ 254 → OneStep (λ m. (m ≡ named b (labels_in o)) × (size m ≤ 254)) (λ m. (0 < length o) × (m ≡ b) × IsTooMuch room (size (named b (labels_in o))))
joining room b o r small = at (within (length o) 0)
  where
    at : (length o ≤ 0) ⊎ (0 < length o) → OneStep (λ m. (m ≡ named b (labels_in o)) × (size m ≤ 254)) (λ m. (0 < length o) × (m ≡ b) × IsTooMuch room (size (named b (labels_in o))))
    at (inl none) =
        let whole : size (named b (labels_in o)) ≤ 254 = omega (arith, size_named b (labels_in o), ap (λ (ls : List (List ℕ)). length (wire ls)) (no_labels o none), small) in
        takes _ _ (named b (labels_in o)) (refl, whole) whole (λ m h. h.0) (λ m h. omega (arith, none, h.0))
    at (inr some) = recast _ _ _ _ (naming room b (named b (labels_in o)) r small) (λ m h. h) (λ m h. h) (λ m h. (some, h.0, h.1)) (λ m h. (h.1, h.2))

symbol : (room : ℕ) (b : BuilderState) (p : NameSymbol) → 254 ≤ room → size b ≤ 254 → OneStep (λ m. (symbol_fault b p ≡ None) × (m ≡ after b p)) (λ m. (m ≡ b) × (((f : TextFault) × (symbol_fault b p ≡ Some f)) ⊎ ((symbol_fault b p ≡ None) × (p ≢ Dot) × (room < size (after b p)))))
symbol room b p r s = at (symbol_fault b p) refl
  where
    refused : (f : TextFault) → symbol_fault b p ≡ Some f → symbol_fault b p ≡ None → ⊥
    refused f e n = let k : Some f ≡ None = sym e ∙ n in cc k

    never : symbol_fault b p ≡ None → ((f : TextFault) × (symbol_fault b p ≡ Some f)) ⊎ ((symbol_fault b p ≡ None) × (p ≢ Dot) × (room < size (after b p))) → ⊥
    never n (inl e) = refused e.0 e.1 n
    never n (inr e) = omega (arith, r, after_short b p s n, e.2)

    at : (o : Option TextFault) → symbol_fault b p ≡ o → OneStep (λ m. (symbol_fault b p ≡ None) × (m ≡ after b p)) (λ m. (m ≡ b) × (((f : TextFault) × (symbol_fault b p ≡ Some f)) ⊎ ((symbol_fault b p ≡ None) × (p ≢ Dot) × (room < size (after b p)))))
    at None e = takes _ _ (after b p) (e, refl) (after_short b p s e) (λ m h. h.1) (λ m h. never e h.1)
    at (Some f) e = passes _ _ b (refl, inl (f, e)) s (λ m h. h.0) (λ m h. refused f e h.0)

TextMakes : BuilderState → List ℕ → BuilderState → Type 0
TextMakes b cs m = (items : List (Result Symbol SymbolCharsError)) → ReadsSymbols cs items → Makes b (name_symbols items) m

TextStops : ℕ → BuilderState → List ℕ → BuilderState → Type 0
TextStops room b cs m = (items : List (Result Symbol SymbolCharsError)) → ReadsSymbols cs items → ((f : TextFault) × StopsAt b (name_symbols items) m f) ⊎ LacksRoom room b (name_symbols items) m

texts : (room : ℕ) (b : BuilderState) (cs : List ℕ) → 254 ≤ room → size b ≤ 254 → OneStep (TextMakes b cs) (TextStops room b cs)
unfolding TextMakes TextStops
texts room b cs r s = at (run (name_symbols (items_of cs)) b)
  where
    stops : (m : BuilderState) → TextStops room b cs m → (f : TextFault) × StopsAt b (name_symbols (items_of cs)) m f
    stops m h = which (h (items_of cs) (items_read cs))
      where
        which : ((f : TextFault) × StopsAt b (name_symbols (items_of cs)) m f) ⊎ LacksRoom room b (name_symbols (items_of cs)) m → (f : TextFault) × StopsAt b (name_symbols (items_of cs)) m f
        which (inl f) = f
        which (inr l) = absurd (never_lacks room b (name_symbols (items_of cs)) m r s l)

    at : ((m : BuilderState) × Makes b (name_symbols (items_of cs)) m) ⊎ ((m : BuilderState) × (f : TextFault) × StopsAt b (name_symbols (items_of cs)) m f) → OneStep (TextMakes b cs) (TextStops room b cs)
    at (inl g) = takes (TextMakes b cs) (TextStops room b cs) g.0
        (λ items k. subst (λ (z : List (Result Symbol SymbolCharsError)). Makes b (name_symbols z) g.0) (sym (same_items cs items k)) g.1)
        (makes_short (name_symbols (items_of cs)) b g.0 s g.1)
        (λ m h. makes_one (name_symbols (items_of cs)) b m g.0 (h (items_of cs) (items_read cs)) g.1)
        (λ m h. let k = stops m h in made_or_stopped (name_symbols (items_of cs)) b g.0 m k.0 g.1 k.1)
    at (inr g) = passes (TextMakes b cs) (TextStops room b cs) g.0
        (λ items k. inl (g.1, subst (λ (z : List (Result Symbol SymbolCharsError)). StopsAt b (name_symbols z) g.0 g.1) (sym (same_items cs items k)) g.2))
        (makes_short g.2.before b g.0 s g.2.made)
        (λ m h. let k = stops m h in stops_at_one (name_symbols (items_of cs)) b m g.0 k.0 g.1 k.1 g.2)
        (λ m h. made_or_stopped (name_symbols (items_of cs)) b m g.0 g.1 (h (items_of cs) (items_read cs)) g.2)

one_call : (room : ℕ) (b : BuilderState) (call : BuilderCall) → 254 ≤ room → size b ≤ 254 → OneStep (Accepted b call) (PassedOver room b call)
unfolding TextMakes TextStops
one_call room b (Push c) r s = labelling room b (pushed b (c ∷ [])) (λ m. length m.open_label) r s
one_call room b (PushSymbol x) r s = symbol room b (symbol_in_name x) r s
one_call room b (AppendSlice x) r s = slicing room b x.now r s
one_call room b EndLabel r s = takes (Accepted b EndLabel) (PassedOver room b EndLabel) (ended b) refl s (λ m h. h) (λ m h. h)
one_call room b (AppendLabel x) r s = adding room b x.now r s
one_call room b (AppendDecU8Label n) r s = naming room b (labelled b (decimal n)) r s
one_call room b (AppendHexDigitLabel n) r s = naming room b (labelled b (digit_glyph true (n % 16) ∷ [])) r s
one_call room b (AppendName n) r s = joining room b (relative_octets n) r s
one_call room b (AppendChars x) r s = texts room b (chars x.now) r s

-- ---- calls in turn

-- calls in turn, where there is the same room all along
AppliesWithin : ℕ → BuilderState → List BuilderCall → BuilderState → ℕ → Type 0
AppliesWithin room b [] new n = (new ≡ b) × (n ≡ 0)
AppliesWithin room b (call ∷ calls) new n = (m : BuilderState) × ((Accepted b call m × ((k : ℕ) × (n ≡ k + 1) × AppliesWithin room m calls new k)) ⊎ (PassedOver room b call m × AppliesWithin room m calls new n))

OneWithin : ℕ → BuilderState → List BuilderCall → Type 0
OneWithin room b calls = JustOne (λ (o : BuilderState × ℕ). AppliesWithin room b calls o.0 o.1)

one_within : (room : ℕ) (b : BuilderState) (calls : List BuilderCall) → 254 ≤ room → size b ≤ 254 → OneWithin room b calls
unfolding At AppliesWithin OneWithin
one_within room b [] r s = ((b, 0), (refl, refl), λ o h. (ap (λ (x : BuilderState). (x, o.1)) h.0) ∙ ap (λ (n : ℕ). (b, n)) h.1)
one_within room b (call ∷ calls) r s = let step = one_call room b call r s in go step (one_within room step.new calls r step.short)
  where
    go : (step : OneStep (Accepted b call) (PassedOver room b call)) → OneWithin room step.new calls → OneWithin room b (call ∷ calls)
    go step others = at step.answer step.holds step.only others
      where
        at : (answer : Bool) → At (Accepted b call) (PassedOver room b call) step.new answer → ((m : BuilderState) (k : Bool) → At (Accepted b call) (PassedOver room b call) m k → (m ≡ step.new) × (k ≡ answer)) → OneWithin room step.new calls → OneWithin room b (call ∷ calls)
        at true holds only rest = ((rest.0.0, rest.0.1 + 1), (step.new, inl (holds, (rest.0.1, refl, rest.1))), λ o h. same o h)
          where
            same : (o : BuilderState × ℕ) → AppliesWithin room b (call ∷ calls) o.0 o.1 → o ≡ (rest.0.0, rest.0.1 + 1)
            same o (m, inl (a, (k, e, h))) =
                let p = only m true a in
                let q = rest.2 (o.0, k) (subst (λ (x : BuilderState). AppliesWithin room x calls o.0 k) p.0 h) in
                ap (λ (n : ℕ). (o.0, n)) e ∙ ap (λ (x : BuilderState × ℕ). (x.0, x.1 + 1)) q
            same o (m, inr (n, h)) = let p = only m false n in absurd (cc p.1)
        at false holds only rest = (rest.0, (step.new, inr (holds, rest.1)), λ o h. same o h)
          where
            same : (o : BuilderState × ℕ) → AppliesWithin room b (call ∷ calls) o.0 o.1 → o ≡ rest.0
            same o (m, inl (a, h)) = let p = only m true a in absurd (cc p.1)
            same o (m, inr (n, h)) =
                let p = only m false n in
                rest.2 o (subst (λ (x : BuilderState). AppliesWithin room x calls o.0 o.1) p.0 h)

-- ---- what the calls leave of the capacity

-- with less room more may be passed over
exceeds_less : (less here label whole : ℕ) → less ≤ here → ExceedsLimits here label whole → ExceedsLimits less label whole
exceeds_less less here label whole h (inl e) = inl e
exceeds_less less here label whole h (inr (inl e)) = inr (inl e)
exceeds_less less here label whole h (inr (inr e)) = inr (inr (omega (arith, h, e)))

too_much_less : (less here whole : ℕ) → less ≤ here → IsTooMuch here whole → IsTooMuch less whole
too_much_less less here whole h (inl e) = inl e
too_much_less less here whole h (inr e) = inr (omega (arith, h, e))

symbol_less : (less here whole : ℕ) (P Q R : Type 0) → less ≤ here → P ⊎ (Q × R × (here < whole)) → P ⊎ (Q × R × (less < whole))
symbol_less less here whole P Q R h (inl f) = inl f
symbol_less less here whole P Q R h (inr e) = inr (e.0, e.1, omega (arith, h, e.2))

lacks_less : (less here : ℕ) (b : BuilderState) (ps : List NameSymbol) (new : BuilderState) → less ≤ here → LacksRoom here b ps new → LacksRoom less b ps new
lacks_less less here b ps new h l = record { before = l.before; part = l.part; rest = l.rest; parts = l.parts; made = l.made; taken = l.taken; octet = l.octet; full = omega (arith, h, l.full) }

text_less : (less here : ℕ) (b : BuilderState) (ps : List NameSymbol) (new : BuilderState) → less ≤ here → ((f : TextFault) × StopsAt b ps new f) ⊎ LacksRoom here b ps new → ((f : TextFault) × StopsAt b ps new f) ⊎ LacksRoom less b ps new
text_less less here b ps new h (inl f) = inl f
text_less less here b ps new h (inr l) = inr (lacks_less less here b ps new h l)

passed_less : (less here : ℕ) (b : BuilderState) (call : BuilderCall) (new : BuilderState) → less ≤ here → PassedOver here b call new → PassedOver less b call new
passed_less less here b (Push c) new h p = (p.0, exceeds_less less here (length (pushed b (c ∷ [])).open_label) (size (pushed b (c ∷ []))) h p.1)
passed_less less here b (PushSymbol s) new h p = (p.0, symbol_less less here (size (after b (symbol_in_name s))) ((f : TextFault) × (symbol_fault b (symbol_in_name s) ≡ Some f)) (symbol_fault b (symbol_in_name s) ≡ None) (symbol_in_name s ≢ Dot) h p.1)
passed_less less here b (AppendDecU8Label n) new h p = (p.0, too_much_less less here (size (labelled b (decimal n))) h p.1)
passed_less less here b (AppendHexDigitLabel n) new h p = (p.0, too_much_less less here (size (labelled b (digit_glyph true (n % 16) ∷ []))) h p.1)
passed_less less here b (AppendName n) new h p = (p.0, p.1, too_much_less less here (size (named b (relative_labels n))) h p.2)
passed_less less here b (AppendSlice s) new h p = (p.0, p.1, exceeds_less less here (length (pushed b s.now).open_label) (size (pushed b s.now)) h p.2)
passed_less less here b EndLabel new h p = p
passed_less less here b (AppendLabel s) new h p = (p.0, p.1, exceeds_less less here (length s.now) (size (labelled b s.now)) h p.2)
passed_less less here b (AppendChars s) new h p = λ items r. text_less less here b (name_symbols items) new h (p items r)

-- the room that a call leaves is no less
no_less : (limit : Option ℕ) (less : ℕ) (b m : Held) → less ≤ room limit b → b.capacity ≤ m.capacity → less ≤ room limit m
no_less limit less b m h grows = omega (arith, h, room_grows limit b m grows)

-- calls that find no less room than this do what they do where they find just this
with_less : (limit : Option ℕ) (less : ℕ) (b : Held) (calls : List BuilderCall) (new : Held) (n : ℕ) → less ≤ room limit b → AppliesAll limit b calls new n → AppliesWithin less b.built calls new.built n
unfolding AppliesWithin
with_less limit less b [] new n h a = (ap (λ (x : Held). x.built) a.0, a.1)
with_less limit less b (call ∷ calls) new n h (m, inl (t, (k, e, a))) =
    (m.built, inl (t.0, (k, e, with_less limit less m calls new k (no_less limit less b m h t.1) a)))
with_less limit less b (call ∷ calls) new n h (m, inr (p, a)) =
    let left = no_less limit less b m h p.1 in
    (m.built, inr (passed_less less (room limit m) b.built call m.built left p.0, with_less limit less m calls new n left a))

held_with : ℕ → BuilderState → Held
held_with capacity b = record { built = b; capacity = capacity }

same_room : (limit : Option ℕ) (capacity : ℕ) (b m : BuilderState) → room limit (held_with capacity m) ≤ room limit (held_with capacity b)
unfolding held_with
same_room limit capacity b m = room_grows limit (held_with capacity m) (held_with capacity b) (omega arith)

-- where the room suffices the capacity may stay
with_same : (limit : Option ℕ) (here capacity : ℕ) (b : BuilderState) (calls : List BuilderCall) (new : BuilderState) (n : ℕ) → room limit (held_with capacity b) ≤ here → AppliesWithin here b calls new n → AppliesAll limit (held_with capacity b) calls (held_with capacity new) n
unfolding AppliesWithin held_with
with_same limit here capacity b [] new n h a = (ap (held_with capacity) a.0, a.1)
with_same limit here capacity b (call ∷ calls) new n h (m, inl (t, (k, e, a))) =
    let left : room limit (held_with capacity m) ≤ here = omega (arith, h, same_room limit capacity b m) in
    (held_with capacity m, inl ((t, omega arith), (k, e, with_same limit here capacity m calls new k left a)))
with_same limit here capacity b (call ∷ calls) new n h (m, inr (p, a)) =
    let left : room limit (held_with capacity m) ≤ here = omega (arith, h, same_room limit capacity b m) in
    (held_with capacity m, inr ((passed_less (room limit (held_with capacity m)) here b call m left p, omega arith), with_same limit here capacity m calls new n left a))

pub one_outcome : (limit : Option ℕ) (b : Held) (calls : List BuilderCall) → 254 ≤ room limit b → size b.built ≤ 254 → OneOutcome limit b calls
unfolding held_with OneWithin
one_outcome limit b calls r s =
    let one = one_within (room limit b) b.built calls r s in (
      one.0,
      (b.capacity, with_same limit (room limit b) b.capacity b.built calls one.0.0 one.0.1 (omega arith) one.1),
      λ o h. one.2 o (with_less limit (room limit b) b calls (held_with h.0 o.0) o.1 (omega arith) h.1),
    )
