-- What an iterator over symbols gives.
use Rattle.std.proofs.Common.{◌≡◌, ℕ, ◌+◌, ◌<◌, inl, inr, List, [], ◌∷◌, ◌++◌, Option, Some, None, Result, Ok, Err, true, false, refl, ap, sym, ◌∙◌, subst, arith, ◌/◌, ◌%◌, ◌≢◌, MatchResult}
use Rattle.std.specs.Iterator.{AlwaysYields}
use Rattle.domain_label.specs.declared.symbol.Symbol.{Symbol}
use Rattle.domain_label.specs.declared.symbol.Symbol.TheVariants.{Char, DecimalEscape}
use Rattle.domain_label.specs.declared.symbol.SymbolCharsError.{SymbolCharsError}
use Rattle.domain_label.specs.declared.symbol.SymbolCharsError.TheVariants.{ShortInput, BadEscape}
use Rattle.domain_label.specs.declared.symbols.Symbols.{Symbols}
use Rattle.domain_label.specs.Spelling.{IsDigit, number, spelling, IsBroken, ReadsSymbols}
use Rattle.domain_label.specs.Scanning.{GivesSymbol, SymbolSteps, GivesDigit, GivesEscape}
use Rattle.domain_label.proofs.ReadOnce.{digits_of, one_symbol, none_spelled, none_broken, whole_or_broken, one_fault}

-- where each run gives cs, an item is the first of cs
pub given_some : {S A : Type 0} (steps : S → Option A → S → Type 0) (s t : S) (x : A) (cs : List A) → AlwaysYields steps (λ c. c) s cs → steps s (Some x) t → (rest : List A) × (cs ≡ x ∷ rest) × AlwaysYields steps (λ c. c) t rest
given_some steps s t x [] h e = absurd (h x t e)
given_some steps s t x (y ∷ ys) h e = let p = h.1 x t e in (ys, ap (λ z. z ∷ ys) (sym p.0), p.1)

pub given_none : {S A : Type 0} (steps : S → Option A → S → Type 0) (s t : S) (cs : List A) → AlwaysYields steps (λ c. c) s cs → steps s None t → cs ≡ []
given_none steps s t [] h e = refl
given_none steps s t (y ∷ ys) h e = absurd (h.0 t e)

-- escapes that are broken at the second digit, and at the third
pub second_broken : (a : ℕ) (cs rest : List ℕ) (e : SymbolCharsError) {I : Type 0} (steps : I → Option ℕ → I → Type 0) (t : I) → cs ≡ a ∷ rest → IsDigit a → GivesDigit steps rest (Err e) t → IsBroken (92 ∷ cs) e
second_broken a cs rest ShortInput steps t p d g = (a ∷ [], ap (λ (x : List ℕ). 92 ∷ x) (p ∙ ap (λ (x : List ℕ). a ∷ x) g), omega arith, (d, tt))
second_broken a cs rest BadEscape steps t p d g = (a ∷ [], g.0, g.1, ap (λ (x : List ℕ). 92 ∷ x) (p ∙ ap (λ (x : List ℕ). a ∷ x) g.2), (d, tt), g.3)

pub third_broken : (a b : ℕ) (cs more rest : List ℕ) (e : SymbolCharsError) {I : Type 0} (steps : I → Option ℕ → I → Type 0) (t : I) → cs ≡ a ∷ more → more ≡ b ∷ rest → IsDigit a → IsDigit b → GivesDigit steps rest (Err e) t → IsBroken (92 ∷ cs) e
third_broken a b cs more rest ShortInput steps t p q d f g = (a ∷ b ∷ [], ap (λ (x : List ℕ). 92 ∷ x) (p ∙ ap (λ (x : List ℕ). a ∷ x) (q ∙ ap (λ (x : List ℕ). b ∷ x) g)), omega arith, (d, (f, tt)))
third_broken a b cs more rest BadEscape steps t p q d f g = (a ∷ b ∷ [], g.0, g.1, ap (λ (x : List ℕ). 92 ∷ x) (p ∙ ap (λ (x : List ℕ). a ∷ x) (q ∙ ap (λ (x : List ℕ). b ∷ x) g.2)), (d, (f, tt)), inl g.3)

pub too_large : (a b c : ℕ) (cs more last rest : List ℕ) → cs ≡ a ∷ more → more ≡ b ∷ last → last ≡ c ∷ rest → IsDigit a → IsDigit b → IsDigit c → 255 < number a b c → IsBroken (92 ∷ cs) BadEscape
too_large a b c cs more last rest p q r d f g over = (a ∷ b ∷ [], c, rest, ap (λ (x : List ℕ). 92 ∷ x) (p ∙ ap (λ (x : List ℕ). a ∷ x) (q ∙ ap (λ (x : List ℕ). b ∷ x) r)), (d, (f, tt)), inr (g, over))

pub whole : (a b c : ℕ) (cs more last rest : List ℕ) → cs ≡ a ∷ more → more ≡ b ∷ last → last ≡ c ∷ rest → IsDigit a → IsDigit b → IsDigit c → 92 ∷ cs ≡ spelling (DecimalEscape (number a b c)) ++ rest
whole a b c cs more last rest p q r d f g =
    let e = digits_of a b c d f g in
    ap (λ (x : List ℕ). 92 ∷ x) (p ∙ ap (λ (x : List ℕ). a ∷ x) (q ∙ ap (λ (x : List ℕ). b ∷ x) r))
    ∙ ap (λ (x : ℕ). 92 ∷ x ∷ b ∷ c ∷ rest) (sym e.0) ∙ ap (λ (x : ℕ). 92 ∷ (48 + number a b c / 100) ∷ x ∷ c ∷ rest) (sym e.1) ∙ ap (λ (x : ℕ). 92 ∷ (48 + number a b c / 100) ∷ (48 + number a b c / 10 % 10) ∷ x ∷ rest) (sym e.2)

-- the iterator gives each item of the text in turn
module _ {I : Type 0} (steps : I → Option ℕ → I → Type 0) where
  nothing_more : (s : Symbols I) (items : List (Result Symbol SymbolCharsError)) → s.done ≡ true → items ≡ [] → AlwaysYields (SymbolSteps steps) (λ x. x) s items
  nothing_more s [] over e = λ x t step. let p = (step.over over).0 in absurd (cc p)
  nothing_more s (x ∷ items) over e = absurd (cc)

  GivesOn : List (Result Symbol SymbolCharsError) → Type 0
  GivesOn items = (s : Symbols I) (cs : List ℕ) → s.done ≡ false → AlwaysYields steps (λ c. c) s.chars cs → ReadsSymbols cs items → AlwaysYields (SymbolSteps steps) (λ x. x) s items

  no_item : (cs : List ℕ) → cs ≡ [] → (x : Result Symbol SymbolCharsError) (t : Symbols I) → GivesSymbol steps cs (Some x) t.chars t.done → ⊥
  no_item cs e (Err f) t g = none_broken cs f e g.0
  no_item cs e (Ok z) t g = none_spelled z cs g.2.0 e g.2.1

  symbol_item : (y : Symbol) (items : List (Result Symbol SymbolCharsError)) (cs : List ℕ) → ReadsSymbols cs (Ok y ∷ items) → GivesOn items → (x : Result Symbol SymbolCharsError) (t : Symbols I) → GivesSymbol steps cs (Some x) t.chars t.done → (x ≡ Ok y) × AlwaysYields (SymbolSteps steps) (λ x. x) t items
  unfolding GivesOn
  symbol_item y items cs reads more (Err e) t g = absurd (whole_or_broken y cs reads.1.0 e reads.0 reads.1.1 g.0)
  symbol_item y items cs reads more (Ok z) t g =
      let same = one_symbol z y g.2.0 reads.1.0 g.0 reads.0 (sym g.2.1 ∙ reads.1.1) in
      (ap Ok same.0, more t reads.1.0 g.1 (subst (λ (q : List ℕ). AlwaysYields steps (λ c. c) t.chars q) same.1 g.2.2) reads.1.2)

  broken_item : (f : SymbolCharsError) (items : List (Result Symbol SymbolCharsError)) (cs : List ℕ) → ReadsSymbols cs (Err f ∷ items) → (x : Result Symbol SymbolCharsError) (t : Symbols I) → GivesSymbol steps cs (Some x) t.chars t.done → (x ≡ Err f) × AlwaysYields (SymbolSteps steps) (λ x. x) t items
  broken_item f items cs reads (Err e) t g = (ap Err (one_fault cs e f g.0 reads.0), nothing_more t items g.1 reads.1)
  broken_item f items cs reads (Ok z) t g = absurd (whole_or_broken z cs g.2.0 f g.0 g.2.1 reads.0)

  pub gives_items : (items : List (Result Symbol SymbolCharsError)) (s : Symbols I) (cs : List ℕ) → s.done ≡ false → AlwaysYields steps (λ c. c) s.chars cs → ReadsSymbols cs items → AlwaysYields (SymbolSteps steps) (λ x. x) s items
  unfolding GivesOn
  gives_items [] s cs on h reads = λ x t step. no_item cs reads x t (step.on on cs h)
  gives_items (Ok y ∷ items) s cs on h reads = (λ t step. none_spelled y cs reads.1.0 (step.on on cs h).0 reads.1.1, λ x t step. symbol_item y items cs reads (λ u ds o k r. gives_items items u ds o k r) x t (step.on on cs h))
  gives_items (Err f ∷ items) s cs on h reads = (λ t step. none_broken cs f (step.on on cs h).0 reads.0, λ x t step. broken_item f items cs reads x t (step.on on cs h))

-- what a call gives at the end, after a backslash, and at another character
module _ {I : Type 0} (steps : I → Option ℕ → I → Type 0) (s t : Symbols I) (next : I) where
  pub at_end : s.done ≡ false → t.done ≡ true → steps s.chars None next → SymbolSteps steps s None t
  at_end on over step = record { over = λ p. absurd (cc); on = λ _ cs h. (given_none steps s.chars next cs h step, over) }

  pub at_char : (c : ℕ) → s.done ≡ false → t.done ≡ false → t.chars ≡ next → c ≢ 92 → steps s.chars (Some c) next → SymbolSteps steps s (Some (Ok (Char c))) t
  at_char c on still e other step = record {
    over = λ p. absurd (cc);
    on = λ _ cs h. let n = given_some steps s.chars next c cs h step in (other, still, (n.0, n.1, subst (λ (i : I). AlwaysYields steps (λ c. c) i n.0) (sym e) n.2));
  }

  pub at_escape : (c : ℕ) → s.done ≡ false → (r : Result Symbol SymbolCharsError) → c ≡ 92 → steps s.chars (Some c) next → ((cs : List ℕ) → AlwaysYields steps (λ c. c) next cs → GivesEscape steps cs r t.chars) → MatchResult r (λ _. t.done ≡ false) (λ _. t.done ≡ true) → SymbolSteps steps s (Some r) t
  at_escape c on r e step escape now = record { over = λ p. absurd (cc); on = λ _ cs h. let n = given_some steps s.chars next c cs h step in at cs n.0 (n.1 ∙ ap (λ x. x ∷ n.0) e) r (escape n.0 n.2) now }
    where
      at : (cs rest : List ℕ) → cs ≡ 92 ∷ rest → (r : Result Symbol SymbolCharsError) → GivesEscape steps rest r t.chars → MatchResult r (λ _. t.done ≡ false) (λ _. t.done ≡ true) → GivesSymbol steps cs (Some r) t.chars t.done
      at cs rest e (Ok z) g now = (g.0, now, (g.1.0, e ∙ g.1.1, g.1.2))
      at cs rest e (Err f) g now = (subst (λ (q : List ℕ). IsBroken q f) (sym e) g, now)

-- the characters of an escape that is a number
pub decimal : (a b c value : ℕ) (cs more last rest : List ℕ) → cs ≡ a ∷ more → more ≡ b ∷ last → last ≡ c ∷ rest → IsDigit a → IsDigit b → IsDigit c → value ≡ number a b c → 92 ∷ cs ≡ spelling (DecimalEscape value) ++ rest
decimal a b c value cs more last rest p q r d f g e = rw e (whole a b c cs more last rest p q r d f g)
