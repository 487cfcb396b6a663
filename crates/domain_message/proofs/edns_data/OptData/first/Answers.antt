use Rattle.domain_message.proofs.NamedOptions.{passes_none, passes_more}
use Rattle.domain_message.proofs.edns_data.OptData.first.Goals as goal

pub loop-rest-init : goal.loop-rest-init
loop-rest-init c = passes_none _ _

pub loop-rest-preserved : goal.loop-rest-preserved
loop-rest-preserved c = passes_more _ _ _ _ c.in-Some.option c.loop-rest.invariant c.in-Some.ensures.some c.if-option-code.false
