use Rattle.std.proofs.Common.{refl, ap, sym, ◌∙◌}
use Rattle.domain_builder.specs.Inside.{Held}
use Rattle.domain_builder.proofs.Building.{exceeds, add_open, add_headed, size_open, size_new}
use Rattle.domain_builder.proofs.labels.LabelsBuilder.add.Goals as goal

pub invariant_of-self : goal.invariant_of-self
invariant_of-self g c =
    (add_open _ _ c.args.slice.now c.self.inside.head c.args.self.now.built (ap (λ (v : Held). v.built) c.self.view_is) c.self.invariant (sym c.is_some.ensures ∙ c.if-is_some.true) c.in-Ok.ensures.ok c.requires.label c.requires.name).0

pub returns-in-Err-clause-err : goal.returns-in-Err-clause-err
returns-in-Err-clause-err g c =
    let e = size_open _ c.args.slice.now c.self.inside.head c.args.self.now.built (ap (λ (v : Held). v.built) c.self.view_is) c.self.invariant (sym c.is_some.ensures ∙ c.if-is_some.true) in
    (refl, exceeds g.B.Octets.limit _ (g.B.Octets.capacity c.append_slice.new.self) _ refl (g.met.B.OctetsBuilder.fixed c.append_slice.new.self) (rw e c.in-Err.ensures.full))

pub returns-in-Err-append_headed-clause-err : goal.returns-in-Err-append_headed-clause-err
returns-in-Err-append_headed-clause-err g c =
    let e = size_new _ c.args.slice.now _ c.self.inside.head c.args.self.now.built refl (ap (λ (v : Held). v.built) c.self.view_is) c.self.invariant (sym c.is_some.ensures ∙ c.if-is_some.false) c.requires.some in
    (refl, exceeds g.B.Octets.limit _ (g.B.Octets.capacity c.append_headed.new.builder) _ refl (g.met.B.OctetsBuilder.fixed c.append_headed.new.builder) (rw e c.in-Err-append_headed.ensures.full))

pub invariant_of-self-2 : goal.invariant_of-self-2
invariant_of-self-2 g c =
    (add_headed _ _ c.args.slice.now _ _ c.self.inside.head c.args.self.now.built c.as_slice-head.ensures.octets refl (ap (λ (v : Held). v.built) c.self.view_is) c.self.invariant (sym c.is_some.ensures ∙ c.if-is_some.false) c.in-Ok-append_headed.ensures.ok c.requires.some c.requires.label c.requires.name).0

pub returns-clause-made : goal.returns-clause-made
returns-clause-made g c =
    (add_headed _ _ c.args.slice.now _ _ c.self.inside.head c.args.self.now.built c.as_slice-head.ensures.octets refl (ap (λ (v : Held). v.built) c.self.view_is) c.self.invariant (sym c.is_some.ensures ∙ c.if-is_some.false) c.in-Ok-append_headed.ensures.ok c.requires.some c.requires.label c.requires.name).1
