-- What a whole reading tells, from what was left.
use Rattle.std.proofs.Common.{◌≡◌, ℕ, ◌<◌, List, [], ◌∷◌, length, Result, Ok, Err, refl, subst, sym, codes, arith}
use Rattle.octseq.specs.declared.parse.Parser.{Parser}
use Rattle.octseq.specs.Parsing.{left}
use Rattle.domain_wire.specs.declared.error.FormError.{FormError}
use Rattle.domain_wire.specs.Refusals.{form_text}
use Rattle.domain_wire.specs.Whole.{IsResultOfAll, OnlyWhole}

module _ {T E : Type 0} (becomes : FormError → E → Type 0) where
  -- an error is returned unchanged
  pub error_told : (told : Result T E) (e : E) (end : Parser) (result : Result T E) → told ≡ Err e → result ≡ Err e → IsResultOfAll becomes told end result
  error_told told e end result was is =
      let IsErrorOfText : Result T E → Type 0 = λ r. IsResultOfAll becomes r end result in
      subst IsErrorOfText (sym was) is

  trailing_left : (value : T) (rest : List ℕ) (trailing : FormError) (e : E) → 0 < length rest → form_text trailing ≡ codes "trailing data" → becomes trailing e → OnlyWhole becomes value rest (Err e)
  trailing_left value [] trailing e some text told = absurd (omega arith)
  trailing_left value (octet ∷ octets) trailing e some text told = (trailing, text, told)

  -- where a value leaves octets, the result is trailing data
  pub trailing_told : (told : Result T E) (value : T) (end : Parser) (trailing : FormError) (e : E) → told ≡ Ok value → 0 < length (left end) → form_text trailing ≡ codes "trailing data" → becomes trailing e → IsResultOfAll becomes told end (Err e)
  trailing_told told value end trailing e was some text becoming =
      let IsErrorOfText : Result T E → Type 0 = λ r. IsResultOfAll becomes r end (Err e) in
      subst IsErrorOfText (sym was) (trailing_left value (left end) trailing e some text becoming)

  nothing_left : (value : T) (rest : List ℕ) → length rest ≡ 0 → OnlyWhole becomes value rest (Ok value)
  nothing_left value [] none = refl
  nothing_left value (octet ∷ octets) none = absurd (omega arith)

  -- a value that leaves nothing is returned
  pub value_told : (told : Result T E) (value : T) (end : Parser) → told ≡ Ok value → length (left end) ≡ 0 → IsResultOfAll becomes told end (Ok value)
  value_told told value end was none =
      let IsErrorOfText : Result T E → Type 0 = λ r. IsResultOfAll becomes r end (Ok value) in
      subst IsErrorOfText (sym was) (nothing_left value (left end) none)
