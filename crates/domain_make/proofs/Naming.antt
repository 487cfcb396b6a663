-- Texts of no name, and words that name nothing.
use Rattle.std.proofs.Common.{◌≡◌, ℕ, ◌<◌, List, length, refl, sym, ap, subst, arith, inl, inr}
use Rattle.std.specs.Prelude.{Result, Ok, Err, IfErr, MatchResult, Some}
use Rattle.std.specs.Str.{chars, IsUtf8}
use Rattle.domain_label.specs.Wire.{wire}
use Rattle.domain_builder.specs.TextErrors.{LacksCapacity}
use Rattle.domain_builder.specs.TextGrammar.{IsTextOfName}
use Rattle.domain_text.specs.declared.error.FromStrError.{FromStrError}
use Rattle.domain_text.specs.declared.error.FromStrError.TheVariants.{Presentation, ShortBuf}
use Rattle.domain_make.specs.Stops.{IfFault, Tells, NoName}
use Rattle.domain_make.specs.Stops.NoName.{no_text}
use Rattle.domain_make.specs.Words.{WordAt, EndsInFinalDot}
use Rattle.domain_make.specs.declared.error.Fault.TheVariants as fault
use Rattle.domain_make.specs.declared.error.Stop.{Stop}
use Rattle.domain_make.proofs.Telling.{if_refused}

name_fits : (cs : List ℕ) (ls : List (List ℕ)) → IsTextOfName cs ls → 255 < length (wire ls) → ⊥
name_fits cs ls is long = elim is.2 [ inl root ↦ absurd (omega (arith, ap (λ x. length (wire x)) root.1)) | inr named ↦ absurd (omega (arith, named.3)) ]

-- The text of a name of at most 255 octets has room.
text_fits : (cs : List ℕ) (ls : List (List ℕ)) (e : FromStrError) → IsTextOfName cs ls → LacksCapacity (Some 255) ls e → ⊥
text_fits cs ls (Presentation e) is lack = lack
text_fits cs ls ShortBuf is lack = name_fits cs ls is lack

-- A text that isn't read is that of no name.
pub name_refused : {N : Type 0} (cs : List ℕ) (labels : N → List (List ℕ)) (r : Result N FromStrError) → ((ls : List (List ℕ)) → IsTextOfName cs ls → MatchResult r (λ n. labels n ≡ ls) (LacksCapacity (Some 255) ls))
    → IfErr r (λ e. (ls : List (List ℕ)) → IsTextOfName cs ls → ⊥)
name_refused cs labels (Ok n) accepts = tt
name_refused cs labels (Err e) accepts = λ ls is. text_fits cs ls e is (accepts ls is)

-- A word that ends in a dot and is no text, or isn't that of a name.
pub name_no_text : (w : WordAt) (e : Stop) → EndsInFinalDot w.octets → (IsUtf8 w.octets → ⊥) → IfFault e (Tells fault.Name w.column) → IfFault e (NoName w)
name_no_text w e ends never h = if_refused (Tells fault.Name w.column) (NoName w) e (λ f c told. no_text ends (told, λ ls is. never is.utf8)) h

pub name_no_name : (w : WordAt) (text : List ℕ) → text ≡ w.octets → EndsInFinalDot w.octets → ((ls : List (List ℕ)) → IsTextOfName (chars text) ls → ⊥) → NoName w fault.Name w.column
name_no_name w text same ends never = no_text ends ((refl, refl), λ ls is. never ls (subst (λ t. IsTextOfName (chars t) ls) (sym same) is.text))
