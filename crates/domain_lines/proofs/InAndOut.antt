-- What was read and written, and why a message was refused.
use Rattle.std.proofs.Common.{◌≡◌, ◌∙◌, List, ℕ, subst, Option, Some, None, IfSome}
use Rattle.std.specs.Prelude.{Err}
use Rattle.std.specs.Io.KnownBytes.{Appends, Keeps}
use Rattle.domain_tool.specs.declared.tool.ToolError.{ToolError}
use Rattle.domain_tool.specs.declared.tool.ToolError.TheVariants.{Parse}
use Rattle.domain_tool.specs.Engines.{IfRefused}
use Rattle.domain_wire.specs.declared.error.ParseError.{ParseError}

-- What holds of the octets that were read holds of the input, where that is known.
pub of_input : {items message : List ℕ} (P : List ℕ → Type 0) (input : Option (List ℕ)) → IfSome input (λ m. items ≡ m) → message ≡ items → P message → IfSome input P
of_input P None e same x = tt
of_input P (Some m) e same x = subst P (same ∙ e) x

-- What was written stays so where no more is.
pub appends_kept : (a b c : Option (List ℕ)) (bs : List ℕ) → Appends a b bs → Keeps b c → Appends a c bs
appends_kept None b c bs p q = tt
appends_kept (Some x) None c bs p q = absurd p
appends_kept (Some x) (Some y) None bs p q = absurd q
appends_kept (Some x) (Some y) (Some z) bs p q = q ∙ p

-- What holds of the reason of a refusal, of this one.
pub refused_for : (e : ToolError) (why : ParseError) (P : ParseError → Type 0) → IfRefused (Err e) P → e ≡ Parse why → P why
refused_for e why P x is = subst (λ e. IfRefused (Err e) P) is x
