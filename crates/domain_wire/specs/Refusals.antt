-- What contracts see of an error of parsing.
use Rattle.std.specs.Prelude.{ℕ, List, codes}
use Rattle.domain_wire.specs.declared.error.FormError.{FormError}
use Rattle.domain_wire.specs.declared.error.ParseError.{ParseError}
use Rattle.domain_wire.specs.declared.error.ParseError.TheVariants.{ShortInput, Form}

-- Why parsing failed: octets were missing, or they are not of the form that the text says. Neither is an RCODE.
pub data Refusal : Type 0 where
  short_input : Refusal
  form : List ℕ → Refusal

-- the text of a form error
abbrev pub form_text : FormError → List ℕ
form_text e = e.text.now

-- the reason that a parse error is
abbrev pub refusal : ParseError → Refusal
refusal ShortInput = short_input
refusal (Form e) = form (form_text e)

-- its text
abbrev pub refusal_text : Refusal → List ℕ
refusal_text short_input = codes "unexpected end of input"
refusal_text (form text) = text
