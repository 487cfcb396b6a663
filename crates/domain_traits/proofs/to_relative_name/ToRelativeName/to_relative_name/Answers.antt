use Rattle.std.proofs.Common.{◌++◌, ◌∙◌, ap}
use Rattle.domain_label.specs.Wire.{wire}
use Rattle.domain_traits.proofs.to_relative_name.ToRelativeName.to_relative_name.Goals as goal

pub relative_name_of-requires : goal.relative_name_of-requires
relative_name_of-requires g c =
    let ls = g.Self.NameLabels.labels c.args.self.now in
    (ls, g.met.Self.Relative.relative c.args.self.now, c.from_builder.ensures ∙ (c.in-Ok.ensures.ok ∙ ap (λ o. o ++ wire ls) c.in_ok-target.ensures.octets))

pub returns-in-Ok-clause-ok : goal.returns-in-Ok-clause-ok
returns-in-Ok-clause-ok g c =
    let ls = g.Self.NameLabels.labels c.args.self.now in
    c.relative_name_of.ensures.list ls (g.met.Self.Relative.relative c.args.self.now) (c.from_builder.ensures ∙ (c.in-Ok.ensures.ok ∙ ap (λ o. o ++ wire ls) c.in_ok-target.ensures.octets))
