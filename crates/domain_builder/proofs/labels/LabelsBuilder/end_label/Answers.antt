use Rattle.std.proofs.Common.{ap}
use Rattle.domain_builder.specs.Inside.{Held}
use Rattle.domain_builder.proofs.Building.{end_closed, open_fits}
use Rattle.domain_builder.proofs.labels.LabelsBuilder.end_label.Goals as goal

pub close-requires-clause-open : goal.close-requires-clause-open
close-requires-clause-open g c = open_fits _ _ c.self.inside.head c.as_slice-end.ensures.octets c.self.invariant

pub invariant_of-self : goal.invariant_of-self
invariant_of-self g c =
    (end_closed _ _ _ c.self.inside.head c.args.self.now.built c.as_slice-end.ensures.octets (ap (λ (v : Held). v.built) c.self.view_is) c.self.invariant c.close.ensures.octets).0

pub returns-clause-ended : goal.returns-clause-ended
returns-clause-ended g c =
    (end_closed _ _ _ c.self.inside.head c.args.self.now.built c.as_slice-end.ensures.octets (ap (λ (v : Held). v.built) c.self.view_is) c.self.invariant c.close.ensures.octets).1
