-- What came of a call.
use Rattle.std.specs.Prelude.{◌≡◌, ℕ, List, ◌++◌, Result, IfErr}
use Rattle.domain_rdata_text.specs.declared.error.Fault.{Fault}
use Rattle.domain_rdata_text.specs.declared.error.Reason.{Reason}
use Rattle.domain_rdata_text.specs.declared.error.ReadError.{ReadError}
use Rattle.domain_rdata_text.specs.declared.error.ReadError.TheVariants.{Refused}

-- a fault: the offset in the text, and why
abbrev pub fault : ℕ → Reason → Fault
fault offset why = record { at = offset; reason = why }

-- The text was refused with a fault of which this holds, or there was no memory, or it wasn't refused.
abbrev pub IfFault : {A : Type 0} → Result A ReadError → (Fault → Type 0) → Type 0
IfFault result P = IfErr result (λ e. (f : Fault) → e ≡ Refused f → P f)

-- The only fault is this one.
abbrev pub RefusesWith : {A : Type 0} → Result A ReadError → Fault → Type 0
RefusesWith result refusal = IfErr result (λ e. (f : Fault) → e ≡ Refused f → f ≡ refusal)

-- Where there is this fault, P holds.
abbrev pub IfRefused : {A : Type 0} → Result A ReadError → Fault → Type 0 → Type 0
IfRefused result refusal P = IfErr result (λ e. e ≡ Refused refusal → P)

-- These were appended.
abbrev pub AppendedTo : {A : Type 0} → List A → List A → List A → Type 0
AppendedTo old more new = new ≡ old ++ more
