use Rattle.std.proofs.Common.{ap}
use Rattle.domain_parsed.proofs.FlatNames.{flat_no_fault, flat_read}
use Rattle.domain_parsed.proofs.flat.read_flat.Goals as goal

pub unreachable-requires : goal.unreachable-requires
unreachable-requires c = flat_no_fault c.requires (ap (λ w. w.at) c.new-progress.ensures) c.in_default.ensures.fault.0

pub returns-clause-held : goal.returns-clause-held
returns-clause-held c = (flat_read _ c.requires (ap (λ w. w.at) c.new-progress.ensures) c.in-Ok.ensures.name.1).holds

pub returns-clause-labels : goal.returns-clause-labels
returns-clause-labels c = (flat_read _ c.requires (ap (λ w. w.at) c.new-progress.ensures) c.in-Ok.ensures.name.1).same

pub returns-clause-contiguous : goal.returns-clause-contiguous
returns-clause-contiguous c = (flat_read _ c.requires (ap (λ w. w.at) c.new-progress.ensures) c.in-Ok.ensures.name.1).piece
