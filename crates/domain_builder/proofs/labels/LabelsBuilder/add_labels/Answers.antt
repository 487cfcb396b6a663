use Rattle.std.proofs.Common.{ap, refl}
use Rattle.domain_builder.specs.Inside.{Held}
use Rattle.domain_builder.proofs.Building.{exceeds, named_closed, open_fits, length_fields}
use Rattle.domain_builder.proofs.labels.LabelsBuilder.add_labels.Goals as goal

pub returns-in-Err-clause-full : goal.returns-in-Err-clause-full
returns-in-Err-clause-full g c =
    let e = length_fields (g.B.Octets.octets c.self.inside.builder) c.self.inside.head c.args.self.now.built (ap (λ (v : Held). v.built) c.self.view_is) c.self.invariant in
    exceeds g.B.Octets.limit _ (g.B.Octets.capacity c.append_slice.new.self) _ refl (g.met.B.OctetsBuilder.fixed c.append_slice.new.self) (rw (← e) c.in-Err.ensures.full)

pub close-requires-clause-open : goal.close-requires-clause-open
close-requires-clause-open g c = open_fits _ _ c.self.inside.head c.as_slice-len.ensures.octets c.self.invariant

pub invariant_of-self-2 : goal.invariant_of-self-2
invariant_of-self-2 g c =
    (named_closed _ _ c.args.slice.now _ _ c.self.inside.head c.args.self.now.built c.as_slice-len.ensures.octets (ap (λ (v : Held). v.built) c.self.view_is) c.self.invariant c.in-Ok.ensures.ok c.close.ensures.octets c.requires.labels c.requires.short).0

pub returns-clause-made : goal.returns-clause-made
returns-clause-made g c =
    (named_closed _ _ c.args.slice.now _ _ c.self.inside.head c.args.self.now.built c.as_slice-len.ensures.octets (ap (λ (v : Held). v.built) c.self.view_is) c.self.invariant c.in-Ok.ensures.ok c.close.ensures.octets c.requires.labels c.requires.short).1
