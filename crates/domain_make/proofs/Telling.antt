-- What is reported for a refusal.
use Rattle.std.proofs.Common.{◌≡◌, ℕ, List, sym, subst}
use Rattle.std.specs.Prelude.{Result, Ok, Err, IfErr, IsErrAnd}
use Rattle.std.specs.Str.{IsUtf8}
use Rattle.domain_make.specs.Stops.{IfFault, Tells, TellsMissing}
use Rattle.domain_make.specs.declared.error.Fault.{Fault}
use Rattle.domain_make.specs.declared.error.Stop.{Stop}
use Rattle.domain_make.specs.declared.error.Stop.TheVariants.{Refused, Memory}

-- What holds of a refusal, where another fact follows from the first.
pub if_refused : (P Q : Fault → ℕ → Type 0) (e : Stop) → ((f : Fault) (c : ℕ) → P f c → Q f c) → IfFault e P → IfFault e Q
if_refused P Q (Refused f c) follows h = follows f c h
if_refused P Q Memory follows h = tt

-- The same of a result.
pub if_err : {A : Type 0} (P Q : Fault → ℕ → Type 0) (r : Result A Stop) → ((f : Fault) (c : ℕ) → P f c → Q f c) → IfErr r (λ e. IfFault e P) → IfErr r (λ e. IfFault e Q)
if_err P Q (Ok x) follows h = tt
if_err P Q (Err e) follows h = if_refused P Q e follows h

-- What holds of an error, where another fact follows from the first.
pub err_map : {A E : Type 0} (P Q : E → Type 0) (r : Result A E) → ((e : E) → P e → Q e) → IfErr r P → IfErr r Q
err_map P Q (Ok x) follows h = tt
err_map P Q (Err e) follows h = follows e h

-- What holds of an error that is passed on.
pub passed_on : {T : Type 0} (P : Stop → Type 0) (r : Result T Stop) (e : Stop) → IsErrAnd r (λ y. y ≡ e) → P e → IfErr r P
passed_on P (Ok x) e h holds = absurd h
passed_on P (Err y) e h holds = subst P (sym h) holds

-- Memory is no fault.
pub no_fault : (P : Fault → ℕ → Type 0) (e : Stop) → e ≡ Memory → IfFault e P
no_fault P e is = subst (λ s. IfFault s P) (sym is) tt

-- A word that is no text is nothing that is text.
pub no_text : {A : Type 0} (P : A → Type 0) (word : List ℕ) (kind : Fault) (column : ℕ) (e : Stop) → ((x : A) → P x → IsUtf8 word) → (IsUtf8 word → ⊥) → IfFault e (Tells kind column) → IfFault e (TellsMissing P kind column)
no_text P word kind column e text never h = if_refused (Tells kind column) (TellsMissing P kind column) e (λ f c told. (told, λ x is. never (text x is))) h
