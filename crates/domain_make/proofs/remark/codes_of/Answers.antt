use Rattle.std.proofs.Common.{refl}
use Rattle.domain_make.proofs.Marking.{comma_there, status_there, second_there, id_there, opcode_there, rcode_there, number_there, codes_lack}
use Rattle.domain_make.proofs.Texts.{codes_joined}
use Rattle.domain_make.proofs.Telling.{passed_on}
use Rattle.domain_make.proofs.remark.codes_of.Goals as goal

pub returns-in_default-clause-err : goal.returns-in_default-clause-err
returns-in_default-clause-err c = ((refl, refl), comma_there c.args.text.now (c.in_default.ensures.none refl))

pub returns-in_err-rest-clause-err : goal.returns-in_err-rest-clause-err
returns-in_err-rest-clause-err c = passed_on _ _ _ c.from_residual.ensures.1 (codes_lack _ c.args.text.now _ (status_there c.args.text.now _ _ c.in-Some.ensures.some c.in-Some.ensures.first) c.in_err-rest.ensures.err)

pub returns-in_default-parted-clause-err : goal.returns-in_default-parted-clause-err
returns-in_default-parted-clause-err c = ((refl, refl), second_there c.args.text.now _ _ _ c.in-Some.ensures.some c.in-Some.ensures.first c.in_ok-rest.ensures.ok (c.in_default-parted.ensures.none refl))

pub returns-in_err-digits-clause-err : goal.returns-in_err-digits-clause-err
returns-in_err-digits-clause-err c = passed_on _ _ _ c.from_residual-in_err-digits.ensures.1 (codes_lack _ c.args.text.now _ (id_there _ _ _ _ _ _ (record {
  first = c.in-Some.ensures.some;
  no_comma = c.in-Some.ensures.first;
  second = c.in_ok-rest.ensures.ok;
  third = c.in-Some-parted.ensures.some;
  none_too = c.in-Some-parted.ensures.first;
})) c.in_err-digits.ensures.err)

pub returns-in_err-opcode-clause-err : goal.returns-in_err-opcode-clause-err
returns-in_err-opcode-clause-err c = passed_on _ _ _ c.from_residual-in_err-opcode.ensures.1 (codes_lack _ c.args.text.now _ (opcode_there _ _ _ _ _ _ (record {
  first = c.in-Some.ensures.some;
  no_comma = c.in-Some.ensures.first;
  second = c.in_ok-rest.ensures.ok;
  third = c.in-Some-parted.ensures.some;
  none_too = c.in-Some-parted.ensures.first;
})) c.in_err-opcode.ensures.err)

pub returns-in_err-rcode-clause-err : goal.returns-in_err-rcode-clause-err
returns-in_err-rcode-clause-err c = passed_on _ _ _ c.from_residual-in_err-rcode.ensures.1 (codes_lack _ c.args.text.now _ (rcode_there _ _ _ _ _ _ (record {
  first = c.in-Some.ensures.some;
  no_comma = c.in-Some.ensures.first;
  second = c.in_ok-rest.ensures.ok;
  third = c.in-Some-parted.ensures.some;
  none_too = c.in-Some-parted.ensures.first;
})) c.in_err-rcode.ensures.err)

pub returns-in_err-id-clause-err : goal.returns-in_err-id-clause-err
returns-in_err-id-clause-err c = passed_on _ _ _ c.from_residual-in_err-id.ensures.1 (codes_lack _ c.args.text.now _ (number_there _ _ _ _ _ _ _ (record {
  first = c.in-Some.ensures.some;
  no_comma = c.in-Some.ensures.first;
  second = c.in_ok-rest.ensures.ok;
  third = c.in-Some-parted.ensures.some;
  none_too = c.in-Some-parted.ensures.first;
}) c.in_ok-digits.ensures.ok) c.in_err-id.ensures.err)

pub returns-clause-ok : goal.returns-clause-ok
returns-clause-ok c = record {
  digits = c.in_ok-digits.digits.now;
  text_is = codes_joined _ _ _ _ _ _ _ _ _ c.in-Some.ensures.some c.in_ok-rest.ensures.ok c.in-Some-parted.ensures.some c.in_ok-digits.ensures.ok c.in_ok-opcode.ensures.text c.in_ok-rcode.ensures.text;
  small_opcode = c.in_ok-opcode.ensures.small;
  small_rcode = c.in_ok-rcode.ensures.small;
  id_is = c.in_ok-id.ensures.ok;
}
