use Rattle.domain_descriptor.specs.Table.{known_fields}
use Rattle.domain_descriptor.proofs.Whole.{data_is_whole}
use Rattle.domain_descriptor.proofs.rdata.Rdata.parse.Goals as goal

pub invariant_of-result-clause-whole : goal.invariant_of-result-clause-whole
invariant_of-result-clause-whole c = data_is_whole c.known_fields.result.now (known_fields c.args.rtype c.args.class) c.args.message.now c.args.begin c.known_fields.ensures c.in-Ok.ensures.ok
