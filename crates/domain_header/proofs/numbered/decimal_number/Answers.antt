use Rattle.std.proofs.Common.{◌≡◌, ◌+◌, ◌*◌, ◌<◌, ℕ, get_or, subst, arith}
use Rattle.std.specs.Char.{digit_value}
use Rattle.std.proofs.lemmas.Str.{digit_value_digit}
use Rattle.std.proofs.lemmas.Str.Parse.{digit_from_value}
use Rattle.std.specs.Int.{IsInRange, IsOutOfRange}
use Rattle.domain_header.proofs.Digits.{ReadSoFar, at_least, digit_here, read_all, read_more}
use Rattle.domain_header.proofs.numbered.decimal_number.Goals as goal

not_both : (c : ℕ) → IsInRange 48 57 c → IsOutOfRange 48 57 c → ⊥
not_both c inside outside = grind (arith, inside, outside)

pub returns-then-not-is_ascii_digit-clause-none : goal.returns-then-not-is_ascii_digit-clause-none
returns-then-not-is_ascii_digit-clause-none c = λ _ n is.
    let text = c.args.text.now in
    let i = c.loop-digit.digit-index in
    let digit = digit_here text i c.loop-digit.number c.loop-digit-test.true c.loop-digit.invariant.1 is.digits.1 in
    not_both (get_or text i 0) (digit_from_value (get_or text i 0) digit) c.if-not-is_ascii_digit.ensures.cases

pub returns-then-number-gt65535-clause-none : goal.returns-then-number-gt65535-clause-none
returns-then-number-gt65535-clause-none c = λ _ n is.
    let text = c.args.text.now in
    let i = c.loop-digit.digit-index in
    let most = at_least text i c.loop-digit.number c.loop-digit-test.true c.loop-digit.invariant.1 in
    let value = digit_value_digit (get_or text i 0) c.if-not-is_ascii_digit.ensures.cases in
    let whole = is.value in
    let fits = is.fits in
    omega (arith, most, value, whole, fits)

pub loop-digit-preserved : goal.loop-digit-preserved
loop-digit-preserved c =
    let text = c.args.text.now in
    let i = c.loop-digit.digit-index in
    let n = c.loop-digit.number in
    let d = get_or text i 0 in
    let digit : digit_value d < 10 = c.if-not-is_ascii_digit.ensures.bound in
    let same = digit_value_digit d c.if-not-is_ascii_digit.ensures.cases in
    let value : n * 10 + digit_value d ≡ n * 10 + c.from.result = omega (arith, same, c.from.ensures) in
    let fits : n * 10 + digit_value d < 65536 = omega (arith, value, c.if-number-gt65535.false) in
    (c.loop-digit.invariant.0, subst (ReadSoFar text (i + 1)) value (read_more text i n c.loop-digit-test.true c.loop-digit.invariant.1 digit fits))

pub returns-clause-some : goal.returns-clause-some
returns-clause-some c =
    let text = c.args.text.now in
    let so_far = c.loop-digit.invariant in
    let all = read_all text c.loop-digit.digit-index c.loop-digit.number c.loop-digit-test.false so_far.1 in
    record { digits = (so_far.0, all.0); value = all.1; fits = so_far.1.fits }
