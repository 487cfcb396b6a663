use Rattle.std.proofs.Common.{◌++◌, ◌∙◌, ap}
use Rattle.domain_label.specs.Wire.{wire}
use Rattle.domain_traits.proofs.to_name.ToName.to_name.Goals as goal

pub name_of-requires : goal.name_of-requires
name_of-requires g c =
    let ls = g.Self.NameLabels.labels c.args.self.now in
    (ls, g.met.Self.Absolute.absolute c.args.self.now, c.from_builder.ensures ∙ (c.in-Ok.ensures.ok ∙ ap (λ o. o ++ wire ls) c.in_ok-target.ensures.octets))

pub returns-in-Ok-clause-ok : goal.returns-in-Ok-clause-ok
returns-in-Ok-clause-ok g c =
    let ls = g.Self.NameLabels.labels c.args.self.now in
    c.name_of.ensures.list ls (g.met.Self.Absolute.absolute c.args.self.now) (c.from_builder.ensures ∙ (c.in-Ok.ensures.ok ∙ ap (λ o. o ++ wire ls) c.in_ok-target.ensures.octets))
