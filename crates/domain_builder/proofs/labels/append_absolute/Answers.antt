use Rattle.domain_builder.proofs.Building.{absolute_after}
use Rattle.domain_builder.proofs.labels.append_absolute.Goals as goal

pub returns-clause-wire : goal.returns-clause-wire
returns-clause-wire g c = (absolute_after _ c.args.origin.now _ c.requires.relative c.requires.origin c.requires.short c.in-Ok.ensures.ok).0

pub returns-clause-labels : goal.returns-clause-labels
returns-clause-labels g c = (absolute_after _ c.args.origin.now _ c.requires.relative c.requires.origin c.requires.short c.in-Ok.ensures.ok).1
