use Rattle.std.proofs.Common.{refl, sym, subst, arith, ◌+◌, ◌*◌}
use Rattle.std.proofs.lemmas.Bool.{false≢true}
use Rattle.dnswalk.specs.Hexadecimal.{BeginsWithHexOctet, BeginsWithNone}
use Rattle.dnswalk.specs.Hexadecimal.BeginsWithHexOctet.{two_digits}
use Rattle.dnswalk.specs.Hexadecimal.BeginsWithNone.{no_digit, no_second, lone, last}
use Rattle.dnswalk.specs.declared.hexadecimal.HexFault.TheVariants.{NoDigit, LoneDigit}
use Rattle.dnswalk.proofs.HexTexts.{left_one, left_two, left_last}
use Rattle.dnswalk.proofs.hexadecimal.octet_at.Goals as goal

pub returns-in_default-clause-err : goal.returns-in_default-clause-err
returns-in_default-clause-err c = subst (λ t. BeginsWithNone t NoDigit 0) (sym (left_one c.args.text.now c.args.at c.requires.inside)) (no_digit c.requires.dark (c.in_default.ensures.none refl))

pub returns-then-text-at-lt2-clause-err : goal.returns-then-text-at-lt2-clause-err
returns-then-text-at-lt2-clause-err c = subst (λ t. BeginsWithNone t LoneDigit 0) (sym (left_last c.args.text.now c.args.at c.requires.inside (omega arith))) (last c.in-Some.ensures.some)

pub returns-in-Some-digit_of-clause-ok : goal.returns-in-Some-digit_of-clause-ok
returns-in-Some-digit_of-clause-ok c = subst (λ t. BeginsWithHexOctet t (c.in-Some.high * 16 + c.in-Some-digit_of.low)) (sym (left_two c.args.text.now c.args.at (omega arith))) (two_digits c.in-Some.ensures.some c.in-Some-digit_of.ensures.some refl)

pub returns-in-None-clause-err : goal.returns-in-None-clause-err
returns-in-None-clause-err c = subst (λ t. BeginsWithNone t LoneDigit 0) (sym (left_two c.args.text.now c.args.at (omega arith))) (lone c.in-Some.ensures.some (c.if-is_white.ensures.0 refl))

pub returns-in-None-2-clause-err : goal.returns-in-None-2-clause-err
returns-in-None-2-clause-err c = subst (λ t. BeginsWithNone t NoDigit 1) (sym (left_two c.args.text.now c.args.at (omega arith))) (no_second c.in-Some.ensures.some (λ w. false≢true (c.if-is_white.ensures.1 w)) (c.in-None-2.ensures.none refl))
