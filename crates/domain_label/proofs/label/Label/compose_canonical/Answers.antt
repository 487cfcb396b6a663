use Rattle.domain_label.proofs.label.Label.compose_canonical.Goals as goal

pub returns-clause-ok : goal.returns-clause-ok
returns-clause-ok g c = rw c.to_canonical.ensures at c.append_wire.ensures.ok
