use Rattle.domain_zone_signed.proofs.Joining.{has_one_response}
use Rattle.domain_zone_signed.proofs.OneChain.{has_one_chain}
use Rattle.domain_zone_signed.proofs.laws.chain_laws.Goals as goal

pub returns : goal.returns
returns c = record {
  chain = has_one_chain c.answer_laws.ensures.one;
  response = has_one_response c.answer_laws.ensures.one c.response_laws.ensures;
}
