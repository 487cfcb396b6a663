use Rattle.domain_any_rdata.proofs.Passing.{all_passed}
use Rattle.domain_any_rdata.proofs.read_back.are_fields.Goals as goal

pub returns : goal.returns
returns c = all_passed c.args.rdata.now c.field.fields c.field.invariant c.in_default.ensures.steps.0
