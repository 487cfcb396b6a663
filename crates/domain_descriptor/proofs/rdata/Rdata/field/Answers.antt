use Rattle.domain_descriptor.proofs.Whole.{size_inside, names_here}
use Rattle.domain_descriptor.proofs.rdata.Rdata.field.Goals as goal

pub invariant_of-result-clause-sized : goal.invariant_of-result-clause-sized
invariant_of-result-clause-sized c = size_inside _ _ _ _ c.in-Ok-field_end.ensures.ok

pub invariant_of-result-clause-named : goal.invariant_of-result-clause-named
invariant_of-result-clause-named c = names_here _ _ _ _ c.in-Ok-field_end.ensures.ok
