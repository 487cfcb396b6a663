-- Calls of a builder in turn.
use Rattle.std.proofs.Common.{Option, ◌≡◌, ℕ, ◌+◌, ◌<◌, ◌≤◌, ◌⊎◌, inl, inr, List, [], ◌∷◌, length, drop, get_or, drop-cons, add-one, length-drop, refl, sym, ap, ◌∙◌, subst, arith}
use Rattle.domain_builder.specs.BuilderState.{BuilderState, LacksRoom, StopsAt}
use Rattle.domain_builder.specs.Inside.{Held}
use Rattle.domain_builder.specs.declared.name_symbol.TextFault.{TextFault}
use Rattle.domain_name.specs.Calls.{TakesCall, PassesOver, AppliesAll}
use Rattle.domain_name.specs.declared.calls.BuilderCall.{BuilderCall}
use Rattle.domain_builder.specs.declared.name_symbol.NameSymbol.{NameSymbol}
use Rattle.domain_builder.specs.TextErrors.{MatchFromStr, presentation_fault, presentation_error_kind}
use Rattle.domain_builder.specs.declared.error.FromStrError.{FromStrError}
use Rattle.domain_builder.specs.declared.error.FromStrError.TheVariants.{Presentation, ShortBuf}

-- one call more before the others
pub take_call : (limit : Option ℕ) (b m new : Held) (call : BuilderCall) (all calls : List BuilderCall) (k : ℕ) → all ≡ call ∷ calls → TakesCall b call m → AppliesAll limit m calls new k → AppliesAll limit b all new (k + 1)
take_call limit b m new call all calls k e a r = subst (λ (z : List BuilderCall). AppliesAll limit b z new (k + 1)) (sym e) (m, inl (a, (k, refl, r)))

pub pass_call : (limit : Option ℕ) (b m new : Held) (call : BuilderCall) (all calls : List BuilderCall) (k : ℕ) → all ≡ call ∷ calls → PassesOver limit b call m → AppliesAll limit m calls new k → AppliesAll limit b all new k
pass_call limit b m new call all calls k e p r = subst (λ (z : List BuilderCall). AppliesAll limit b z new k) (sym e) (m, inr (p, r))

pub no_call : (limit : Option ℕ) (b : Held) (all : List BuilderCall) → all ≡ [] → AppliesAll limit b all b 0
no_call limit b all e = subst (λ (z : List BuilderCall). AppliesAll limit b z b 0) (sym e) (refl, refl)

pub same_count : (limit : Option ℕ) (b new : Held) (all : List BuilderCall) (m n : ℕ) → m ≡ n → AppliesAll limit b all new m → AppliesAll limit b all new n
same_count limit b new all m n e h = subst (λ (z : ℕ). AppliesAll limit b all new z) e h

-- a text that was refused
pub refused_text : (room : ℕ) (b new : BuilderState) (ps : List NameSymbol) (e : FromStrError) → MatchFromStr e (StopsAt b ps new) (LacksRoom room b ps new) → ((f : TextFault) × StopsAt b ps new f) ⊎ LacksRoom room b ps new
refused_text room b new ps (Presentation q) h = inl (presentation_fault (presentation_error_kind q), h)
refused_text room b new ps ShortBuf h = inr h

pub next_call : (calls : List BuilderCall) (i : ℕ) (x : BuilderCall) → i < length calls → x ≡ get_or calls i x → drop i calls ≡ x ∷ drop (i + 1) calls
next_call calls i x h e =
    drop-cons calls i x h ∙ ap (λ (n : ℕ). get_or calls i x ∷ drop n calls) (sym (add-one i)) ∙ ap (λ (y : BuilderCall). y ∷ drop (i + 1) calls) (sym e)

pub last_call : (calls : List BuilderCall) (i : ℕ) → length calls ≤ i → drop i calls ≡ []
last_call calls i h = none (drop i calls) (omega (arith, length-drop i calls))
  where
    none : (rest : List BuilderCall) → length rest ≤ 0 → rest ≡ []
    none [] k = refl
    none (c ∷ rest) k = absurd (omega arith)
