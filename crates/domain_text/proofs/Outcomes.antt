-- What a text's outcome over its items says of its characters.
use Rattle.std.proofs.Common.{◌≡◌, ℕ, ◌⊎◌, inl, inr, List, length, Option, Some, None, Result, Ok, Err, sym, ◌∙◌, subst, MatchResult, IfOk, IfErr}
use Rattle.octseq.specs.Capacity.{MayExceedCapacity}
use Rattle.domain_label.specs.Wire.{wire}
use Rattle.domain_label.specs.Spelling.{ReadsSymbols}
use Rattle.domain_label.proofs.ReadOnce.{read_once}
use Rattle.domain_text.specs.Laws.{IsTextOfOneName, IsTextOfOneRelative}
use Rattle.domain_text.specs.NameSymbols.{name_symbols}
use Rattle.domain_label.specs.Spelling.{JustOne}
use Rattle.domain_text.specs.TextGrammar.{IsNameText, NotANameText, IsRelativeText, NoRelative, IsTextOfName, IsTextOfNoName, IsTextOfRelative, IsTextOfNoRelative}
use Rattle.domain_text.specs.TextErrors.{MatchFromStr, MatchRelativeFromStr, MakesName, MakesRelative, ReadsNameText, ReadsRelativeText, presentation_fault, presentation_error_kind}
use Rattle.domain_text.specs.declared.name_symbol.TextFault.{TextFault}
use Rattle.domain_text.specs.declared.name_symbol.NameSymbol.{NameSymbol}
use Rattle.domain_text.specs.declared.error.FromStrError.{FromStrError}
use Rattle.domain_text.specs.declared.error.FromStrError.TheVariants.{Presentation, ShortBuf}
use Rattle.domain_text.specs.declared.error.RelativeFromStrError.{RelativeFromStrError}
use Rattle.domain_text.specs.declared.error.RelativeFromStrError.TheVariants.{FromStr, AbsoluteName}
use Rattle.domain_text.proofs.OneOutcome.{one_name, one_relative}
use Rattle.domain_text.proofs.Reading.{Item}

-- ---- parts have one outcome

-- P of some, or Q of some, and never two of either or one of each
two_of : {A B : Type 0} (P : A → Type 0) (Q : B → Type 0) → ((JustOne P × ((b : B) → Q b → ⊥)) ⊎ (JustOne Q × ((a : A) → P a → ⊥))) → (a c : A) → P a → P c → a ≡ c
two_of P Q (inl h) a c p q = h.0.2 a p ∙ sym (h.0.2 c q)
two_of P Q (inr h) a c p q = absurd (h.1 a p)

never_both : {A B : Type 0} (P : A → Type 0) (Q : B → Type 0) → ((JustOne P × ((b : B) → Q b → ⊥)) ⊎ (JustOne Q × ((a : A) → P a → ⊥))) → (a : A) (b : B) → P a → Q b → ⊥
never_both P Q (inl h) a b p q = h.1 b q
never_both P Q (inr h) a b p q = h.1 a p

two_faults : {A B : Type 0} (P : A → Type 0) (Q : B → Type 0) → ((JustOne P × ((b : B) → Q b → ⊥)) ⊎ (JustOne Q × ((a : A) → P a → ⊥))) → (b d : B) → Q b → Q d → b ≡ d
two_faults P Q (inl h) b d p q = absurd (h.1 b p)
two_faults P Q (inr h) b d p q = h.0.2 b p ∙ sym (h.0.2 d q)

-- the items of a text
pub items_of : (cs : List ℕ) → List Item
items_of cs = (read_once cs).0

pub items_read : (cs : List ℕ) → ReadsSymbols cs (items_of cs)
unfolding items_of
items_read cs = (read_once cs).1

pub same_items : (cs : List ℕ) (items : List Item) → ReadsSymbols cs items → items ≡ items_of cs
unfolding items_of
same_items cs items r = (read_once cs).2 items r

-- ---- characters have one outcome where their parts have

Spelled : {A : Type 0} → (List NameSymbol → A → Type 0) → List ℕ → A → Type 0
Spelled P cs a = (items : List Item) × ReadsSymbols cs items × P (name_symbols items) a

spelled_parts : {A : Type 0} (P : List NameSymbol → A → Type 0) (cs : List ℕ) (a : A) → Spelled P cs a → P (name_symbols (items_of cs)) a
unfolding Spelled
spelled_parts P cs a s = subst (λ (z : List Item). P (name_symbols z) a) (same_items cs s.0 s.1) s.2

spelled_one : {A : Type 0} (P : List NameSymbol → A → Type 0) (cs : List ℕ) → JustOne (P (name_symbols (items_of cs))) → JustOne (Spelled P cs)
unfolding Spelled
spelled_one P cs h = (h.0, (items_of cs, items_read cs, h.1), λ b s. h.2 b (spelled_parts P cs b s))

one_spelled : {A B : Type 0} (P : List NameSymbol → A → Type 0) (Q : List NameSymbol → B → Type 0) (cs : List ℕ) → ((JustOne (P (name_symbols (items_of cs))) × ((b : B) → Q (name_symbols (items_of cs)) b → ⊥)) ⊎ (JustOne (Q (name_symbols (items_of cs))) × ((a : A) → P (name_symbols (items_of cs)) a → ⊥))) → ((JustOne (Spelled P cs) × ((b : B) → Spelled Q cs b → ⊥)) ⊎ (JustOne (Spelled Q cs) × ((a : A) → Spelled P cs a → ⊥)))
one_spelled P Q cs (inl h) = inl (spelled_one P cs h.0, λ b s. h.1 b (spelled_parts Q cs b s))
one_spelled P Q cs (inr h) = inr (spelled_one Q cs h.0, λ a s. h.1 a (spelled_parts P cs a s))

pub spells_one_name : (cs : List ℕ) → IsTextOfOneName cs
unfolding Spelled
spells_one_name cs = one_spelled IsNameText NotANameText cs (one_name (name_symbols (items_of cs)))

pub spells_one_relative : (cs : List ℕ) → IsTextOfOneRelative cs
unfolding Spelled
spells_one_relative cs = one_spelled IsRelativeText NoRelative cs (one_relative (name_symbols (items_of cs)))

-- ---- absolute names

module _ {N : Type 0} (labels : N → List (List ℕ)) (room : Option ℕ) (cs : List ℕ) (r : Result N FromStrError) (h : MakesName labels room (name_symbols (items_of cs)) r) where
  name_ok : IfOk r (λ n. IsTextOfName cs (labels n))
  name_ok = at r h
    where
      at : (r : Result N FromStrError) → MakesName labels room (name_symbols (items_of cs)) r → IfOk r (λ n. IsTextOfName cs (labels n))
      at (Ok n) h = (items_of cs, items_read cs, h)
      at (Err e) h = tt

  name_err : IfErr r (λ e. MatchFromStr e (IsTextOfNoName cs) ((ls : List (List ℕ)) × IsTextOfName cs ls × MayExceedCapacity room (length (wire ls))))
  name_err = at r h
    where
      at : (r : Result N FromStrError) → MakesName labels room (name_symbols (items_of cs)) r → IfErr r (λ e. MatchFromStr e (IsTextOfNoName cs) ((ls : List (List ℕ)) × IsTextOfName cs ls × MayExceedCapacity room (length (wire ls))))
      at (Ok n) h = tt
      at (Err (Presentation p)) h = (items_of cs, items_read cs, h)
      at (Err ShortBuf) h = (h.0, (items_of cs, items_read cs, h.1), h.2)

  name_accepts : (ls : List (List ℕ)) → IsTextOfName cs ls → MatchResult r (λ n. labels n ≡ ls) (λ e. MatchFromStr e (λ _. ⊥) (MayExceedCapacity room (length (wire ls))))
  name_accepts ls s = at r h (subst (λ (z : List Item). IsNameText (name_symbols z) ls) (same_items cs s.0 s.1) s.2)
    where
      at : (r : Result N FromStrError) → MakesName labels room (name_symbols (items_of cs)) r → IsNameText (name_symbols (items_of cs)) ls → MatchResult r (λ n. labels n ≡ ls) (λ e. MatchFromStr e (λ _. ⊥) (MayExceedCapacity room (length (wire ls))))
      at (Ok n) h t = two_of (IsNameText (name_symbols (items_of cs))) (NotANameText (name_symbols (items_of cs))) (one_name (name_symbols (items_of cs))) (labels n) ls h t
      at (Err (Presentation p)) h t = never_both (IsNameText (name_symbols (items_of cs))) (NotANameText (name_symbols (items_of cs))) (one_name (name_symbols (items_of cs))) ls (presentation_fault (presentation_error_kind p)) t h
      at (Err ShortBuf) h t = subst (λ (z : List (List ℕ)). MayExceedCapacity room (length (wire z))) (two_of (IsNameText (name_symbols (items_of cs))) (NotANameText (name_symbols (items_of cs))) (one_name (name_symbols (items_of cs))) h.0 ls h.1 t) h.2

  name_exact : (f : TextFault) → IsTextOfNoName cs f → MatchResult r (λ _. ⊥) (λ e. MatchFromStr e (λ told. told ≡ f) ⊥)
  name_exact f s = at r h (subst (λ (z : List Item). NotANameText (name_symbols z) f) (same_items cs s.0 s.1) s.2)
    where
      at : (r : Result N FromStrError) → MakesName labels room (name_symbols (items_of cs)) r → NotANameText (name_symbols (items_of cs)) f → MatchResult r (λ _. ⊥) (λ e. MatchFromStr e (λ told. told ≡ f) ⊥)
      at (Ok n) h t = never_both (IsNameText (name_symbols (items_of cs))) (NotANameText (name_symbols (items_of cs))) (one_name (name_symbols (items_of cs))) (labels n) f h t
      at (Err (Presentation p)) h t = two_faults (IsNameText (name_symbols (items_of cs))) (NotANameText (name_symbols (items_of cs))) (one_name (name_symbols (items_of cs))) (presentation_fault (presentation_error_kind p)) f h t
      at (Err ShortBuf) h t = never_both (IsNameText (name_symbols (items_of cs))) (NotANameText (name_symbols (items_of cs))) (one_name (name_symbols (items_of cs))) h.0 f h.1 t

  pub name_read : ReadsNameText labels room cs r
  name_read = record { ok = name_ok; err = name_err; accepts = name_accepts; exact = name_exact }

-- ---- relative names

module _ {N : Type 0} (labels : N → List (List ℕ)) (room : Option ℕ) (cs : List ℕ) (r : Result N RelativeFromStrError) (h : MakesRelative labels room (name_symbols (items_of cs)) r) where
  relative_ok : IfOk r (λ n. IsTextOfRelative cs (labels n))
  relative_ok = at r h
    where
      at : (r : Result N RelativeFromStrError) → MakesRelative labels room (name_symbols (items_of cs)) r → IfOk r (λ n. IsTextOfRelative cs (labels n))
      at (Ok n) h = (items_of cs, items_read cs, h)
      at (Err e) h = tt

  relative_err : IfErr r (λ e. MatchRelativeFromStr e (IsTextOfNoRelative cs) ((ls : List (List ℕ)) × IsTextOfRelative cs ls × MayExceedCapacity room (length (wire ls))))
  relative_err = at r h
    where
      at : (r : Result N RelativeFromStrError) → MakesRelative labels room (name_symbols (items_of cs)) r → IfErr r (λ e. MatchRelativeFromStr e (IsTextOfNoRelative cs) ((ls : List (List ℕ)) × IsTextOfRelative cs ls × MayExceedCapacity room (length (wire ls))))
      at (Ok n) h = tt
      at (Err AbsoluteName) h = (items_of cs, items_read cs, h)
      at (Err (FromStr (Presentation p))) h = (items_of cs, items_read cs, h)
      at (Err (FromStr ShortBuf)) h = (h.0, (items_of cs, items_read cs, h.1), h.2)

  relative_accepts : (ls : List (List ℕ)) → IsTextOfRelative cs ls → MatchResult r (λ n. labels n ≡ ls) (λ e. MatchRelativeFromStr e (λ _. ⊥) (MayExceedCapacity room (length (wire ls))))
  relative_accepts ls s = at r h (subst (λ (z : List Item). IsRelativeText (name_symbols z) ls) (same_items cs s.0 s.1) s.2)
    where
      at : (r : Result N RelativeFromStrError) → MakesRelative labels room (name_symbols (items_of cs)) r → IsRelativeText (name_symbols (items_of cs)) ls → MatchResult r (λ n. labels n ≡ ls) (λ e. MatchRelativeFromStr e (λ _. ⊥) (MayExceedCapacity room (length (wire ls))))
      at (Ok n) h t = two_of (IsRelativeText (name_symbols (items_of cs))) (NoRelative (name_symbols (items_of cs))) (one_relative (name_symbols (items_of cs))) (labels n) ls h t
      at (Err AbsoluteName) h t = never_both (IsRelativeText (name_symbols (items_of cs))) (NoRelative (name_symbols (items_of cs))) (one_relative (name_symbols (items_of cs))) ls None t h
      at (Err (FromStr (Presentation p))) h t = never_both (IsRelativeText (name_symbols (items_of cs))) (NoRelative (name_symbols (items_of cs))) (one_relative (name_symbols (items_of cs))) ls (Some (presentation_fault (presentation_error_kind p))) t h
      at (Err (FromStr ShortBuf)) h t = subst (λ (z : List (List ℕ)). MayExceedCapacity room (length (wire z))) (two_of (IsRelativeText (name_symbols (items_of cs))) (NoRelative (name_symbols (items_of cs))) (one_relative (name_symbols (items_of cs))) h.0 ls h.1 t) h.2

  relative_exact : (why : Option TextFault) → IsTextOfNoRelative cs why → MatchResult r (λ _. ⊥) (λ e. MatchRelativeFromStr e (λ told. told ≡ why) ⊥)
  relative_exact why s = at r h (subst (λ (z : List Item). NoRelative (name_symbols z) why) (same_items cs s.0 s.1) s.2)
    where
      at : (r : Result N RelativeFromStrError) → MakesRelative labels room (name_symbols (items_of cs)) r → NoRelative (name_symbols (items_of cs)) why → MatchResult r (λ _. ⊥) (λ e. MatchRelativeFromStr e (λ told. told ≡ why) ⊥)
      at (Ok n) h t = never_both (IsRelativeText (name_symbols (items_of cs))) (NoRelative (name_symbols (items_of cs))) (one_relative (name_symbols (items_of cs))) (labels n) why h t
      at (Err AbsoluteName) h t = two_faults (IsRelativeText (name_symbols (items_of cs))) (NoRelative (name_symbols (items_of cs))) (one_relative (name_symbols (items_of cs))) None why h t
      at (Err (FromStr (Presentation p))) h t = two_faults (IsRelativeText (name_symbols (items_of cs))) (NoRelative (name_symbols (items_of cs))) (one_relative (name_symbols (items_of cs))) (Some (presentation_fault (presentation_error_kind p))) why h t
      at (Err (FromStr ShortBuf)) h t = never_both (IsRelativeText (name_symbols (items_of cs))) (NoRelative (name_symbols (items_of cs))) (one_relative (name_symbols (items_of cs))) h.0 why h.1 t

  pub relative_read : ReadsRelativeText labels room cs r
  relative_read = record { ok = relative_ok; err = relative_err; accepts = relative_accepts; exact = relative_exact }
