-- Reading a value that has all of the octets, and composing octets that are all of a vector's.
use Rattle.std.specs.Prelude.{◌≡◌, ℕ, List, [], ◌∷◌, codes, Result, Ok, Err, MatchResult, Vec}
use Rattle.std.specs.declared.alloc.Global.{Global}
use Rattle.octseq.specs.declared.parse.Parser.{Parser}
use Rattle.octseq.specs.Parsing.{slice_of, message, position, left}
use Rattle.domain_wire.specs.declared.error.FormError.{FormError}
use Rattle.domain_wire.specs.Refusals.{form_text}

-- a parser over all of the octets, at their start
pub record BeginsAt (p : Parser) (octets : List ℕ) : Type 0 where
  pub whole_octets : slice_of p ≡ octets
  pub to_the_end : message p ≡ octets
  pub at_start : position p ≡ 0

-- the value where nothing was left, and else an error that `trailing data` becomes
abbrev pub OnlyWhole : {T E : Type 0} → (FormError → E → Type 0) → T → List ℕ → Result T E → Type 0
OnlyWhole becomes value [] result = result ≡ Ok value
OnlyWhole becomes value (octet ∷ octets) (Ok _) = ⊥
OnlyWhole becomes value (octet ∷ octets) (Err e) = (trailing : FormError) × (form_text trailing ≡ codes "trailing data") × becomes trailing e

-- what is returned of a reading that gave this and left the parser so: its error, its value, or that octets
-- were left
abbrev pub IsResultOfAll : {T E : Type 0} → (FormError → E → Type 0) → Result T E → Parser → Result T E → Type 0
IsResultOfAll becomes (Err e) end result = result ≡ Err e
IsResultOfAll becomes (Ok value) end result = OnlyWhole becomes value (left end) result

-- A call was given a parser at the start of the octets, and the result is that of reading all of them. `returns` says
-- what the call may return and leave.
abbrev pub ReadsWhole : {T E : Type 0}
    → (Parser → Result T E → Parser → Type 0) → (FormError → E → Type 0) → List ℕ → Result T E → Type 0
ReadsWhole {T} {E} returns becomes octets result =
    (start : Parser) × (told : Result T E) × (end : Parser)
    × BeginsAt start octets × returns start told end × IsResultOfAll becomes told end result

-- A call was given a vector without octets, and the result is what it left there, or its error.
abbrev pub ComposesWhole : {E : Type 0}
    → (Vec ℕ Global → Result (Unit {0}) E → Vec ℕ Global → Type 0) → Result (Vec ℕ Global) E → Type 0
ComposesWhole {E} returns result =
    (start : Vec ℕ Global) × (told : Result (Unit {0}) E) × (end : Vec ℕ Global)
    × (start.items ≡ []) × returns start told end
    × MatchResult told (λ _. result ≡ Ok end) (λ e. result ≡ Err e)
