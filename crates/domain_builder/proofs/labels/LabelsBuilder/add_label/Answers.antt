use Rattle.std.proofs.Common.{ap, refl}
use Rattle.domain_builder.specs.Inside.{Held}
use Rattle.domain_builder.proofs.Building.{exceeds, label_closed, open_fits, size_labelled_fields}
use Rattle.domain_builder.proofs.labels.LabelsBuilder.add_label.Goals as goal

pub returns-in-Err-clause-err : goal.returns-in-Err-clause-err
returns-in-Err-clause-err g c =
    let e = size_labelled_fields _ c.args.slice.now _ c.self.inside.head c.args.self.now.built refl (ap (λ (v : Held). v.built) c.self.view_is) c.self.invariant c.requires.some in
    (refl, exceeds g.B.Octets.limit _ (g.B.Octets.capacity c.append_headed.new.builder) _ refl (g.met.B.OctetsBuilder.fixed c.append_headed.new.builder) (rw e c.in-Err.ensures.full))

pub close-requires-clause-open : goal.close-requires-clause-open
close-requires-clause-open g c = open_fits _ _ c.self.inside.head c.as_slice-end.ensures.octets c.self.invariant

pub invariant_of-self-2 : goal.invariant_of-self-2
invariant_of-self-2 g c =
    (label_closed _ _ _ c.args.slice.now _ _ c.self.inside.head c.args.self.now.built c.as_slice-end.ensures.octets (ap (λ (v : Held). v.built) c.self.view_is) c.self.invariant refl c.in-Ok.ensures.ok c.close.ensures.octets c.requires.some c.requires.label c.requires.name).0

pub returns-clause-made : goal.returns-clause-made
returns-clause-made g c =
    (label_closed _ _ _ c.args.slice.now _ _ c.self.inside.head c.args.self.now.built c.as_slice-end.ensures.octets (ap (λ (v : Held). v.built) c.self.view_is) c.self.invariant refl c.in-Ok.ensures.ok c.close.ensures.octets c.requires.some c.requires.label c.requires.name).1
