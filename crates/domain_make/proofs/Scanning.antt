-- Symbols, octet by octet: they are read in one way.
use Rattle.std.proofs.Common.{◌≡◌, ℕ, ◌+◌, ◌<◌, ◌≤◌, List, length, Bool, true, false, refl, sym, ap, subst, ◌∙◌, arith}
use Rattle.std.specs.Prelude.{slice_index}
use Rattle.std.proofs.lemmas.List.{get_or_past}
use Rattle.domain_make.specs.Words.{SymbolStep, SymbolsTo, EndsInFinalDot}
use Rattle.domain_make.specs.Words.SymbolStep.{escaped as symbol_escaped, unescaped_dot, other}
use Rattle.domain_make.proofs.Stepping.{IsSingle, IsLast, one_end}

-- Nothing but zero is past the end.
past : (xs : List ℕ) (at n : ℕ) → length xs ≤ at → slice_index xs at ≡ n → 0 < n → ⊥
past xs at n all is more = absurd (omega (arith, get_or_past xs at 0 all))

symbol_single : (text : List ℕ) → IsSingle (SymbolStep text)
symbol_single text s t u (symbol_escaped a b e) (symbol_escaped x y f) = e ∙ sym f
symbol_single text s t u (symbol_escaped a b e) (unescaped_dot x f) = absurd (omega arith)
symbol_single text s t u (symbol_escaped a b e) (other x y z f) = absurd (y a)
symbol_single text s t u (unescaped_dot a e) (symbol_escaped x y f) = absurd (omega arith)
symbol_single text s t u (unescaped_dot a e) (unescaped_dot x f) = e ∙ sym f
symbol_single text s t u (unescaped_dot a e) (other x y z f) = absurd (z a)
symbol_single text s t u (other a b c e) (symbol_escaped x y f) = absurd (b x)
symbol_single text s t u (other a b c e) (unescaped_dot x f) = absurd (c x)
symbol_single text s t u (other a b c e) (other x y z f) = e ∙ sym f

symbols_ended : (text : List ℕ) (d : Bool) (at : ℕ) → at ≡ length text → IsLast (SymbolStep text) (d, at)
symbols_ended text d at all t (symbol_escaped a b e) = absurd (omega arith)
symbols_ended text d at all t (unescaped_dot a e) = past text at 46 (omega arith) a (omega arith)
symbols_ended text d at all t (other a b c e) = absurd (omega arith)

-- A backslash that is the last octet is of no symbol.
symbol_lone : (text : List ℕ) (d : Bool) (at : ℕ) → slice_index text at ≡ 92 → length text ≡ at + 1 → IsLast (SymbolStep text) (d, at)
symbol_lone text d at is all t (symbol_escaped a b e) = absurd (omega arith)
symbol_lone text d at is all t (unescaped_dot a e) = absurd (omega arith)
symbol_lone text d at is all t (other a b c e) = absurd (b is)

pub no_dot : (text : List ℕ) (d : Bool) (at : ℕ) → SymbolsTo text d at → slice_index text at ≡ 92 → length text ≡ at + 1 → EndsInFinalDot text → ⊥
no_dot text d at to is all ends =
    let same = one_end (SymbolStep text) (false, 0) (d, at) (true, length text) (symbol_single text) (symbol_lone text d at is all) (symbols_ended text true (length text) refl) to ends in
    let at_end : at ≡ length text = ap (λ (s : Bool × ℕ). s.1) same in
    absurd (omega arith)

-- All symbols were read: the last was a dot, or the text doesn't end in one.
pub dotted : (text : List ℕ) (d : Bool) (at : ℕ) → at ≡ length text → SymbolsTo text d at → (d ≡ true → EndsInFinalDot text) × (EndsInFinalDot text → d ≡ true)
dotted text d at all to = (
  λ is. subst (λ n. SymbolsTo text true n) all (subst (λ b. SymbolsTo text b at) is to),
  λ ends. ap (λ (s : Bool × ℕ). s.0) (one_end (SymbolStep text) (false, 0) (d, at) (true, length text) (symbol_single text) (symbols_ended text d at all) (symbols_ended text true (length text) refl) to ends),
)
