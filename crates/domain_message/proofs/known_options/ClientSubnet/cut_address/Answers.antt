use Rattle.domain_message.specs.KnownOptions.IsCutFault.{prefix}
use Rattle.domain_message.proofs.known_options.ClientSubnet.cut_address.Goals as goal

pub returns-in-Err-clause-err : goal.returns-in-Err-clause-err
returns-in-Err-clause-err c = prefix c.in-Err.ensures.err
