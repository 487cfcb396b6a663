use Rattle.std.proofs.Common.{rules, arith, subst, slice_index}
use Rattle.domain_wire.specs.Refusals.{refusal}
use Rattle.domain_message.specs.KnownOptions.{IsPrefixFault}
use Rattle.domain_message.specs.KnownOptions.IsSubnetFault.{prefix}
use Rattle.domain_message.proofs.known_options.ClientSubnet.from_option.Goals as goal

pub returns-in-Err-clause-err : goal.returns-in-Err-clause-err
returns-in-Err-clause-err c =
    let octets = c.args.option.«data».now in
    (search rules, prefix (omega (arith, c.if-octets-lt4.false)) (subst (λ f. IsPrefixFault f (slice_index octets 2) (refusal c.in-Err.e)) c.number_of_16_bits-family.ensures c.in-Err.ensures.err))
