use Rattle.domain_zone_signed.proofs.OneSigned.{has_one, is_plain}
use Rattle.domain_zone_signed.proofs.laws.signed_laws.Goals as goal

pub returns : goal.returns
returns c = record {
  one = has_one c.answer_laws.ensures.one c.chain_laws.ensures.chain c.chain_laws.ensures.response c.denial_laws.ensures.one;
  plain = is_plain;
}
