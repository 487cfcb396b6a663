use Rattle.std.proofs.Common.{rules, ◌++◌, ◌∙◌, ap}
use Rattle.domain_label.specs.Lowercase.{lowercase_labels}
use Rattle.domain_label.specs.Wire.{wire}
use Rattle.domain_label.proofs.CanonicalForm.{lowercase_size}
use Rattle.domain_traits.proofs.ListsOfNames.{absolute_lowered}
use Rattle.domain_traits.proofs.to_name.ToName.to_canonical_name.Goals as goal

pub name_of-requires : goal.name_of-requires
name_of-requires g c =
    let ls = lowercase_labels (g.Self.NameLabels.labels c.args.self.now) in
    let name = absolute_lowered _ (g.met.Self.Absolute.absolute c.args.self.now) in
    (ls, name, c.from_builder.ensures ∙ (c.in-Ok.ensures.ok ∙ ap (λ o. o ++ wire ls) c.in_ok-target.ensures.octets))

pub returns-in-Ok-clause-ok : goal.returns-in-Ok-clause-ok
returns-in-Ok-clause-ok g c =
    let ls = lowercase_labels (g.Self.NameLabels.labels c.args.self.now) in
    let name = absolute_lowered _ (g.met.Self.Absolute.absolute c.args.self.now) in
    c.name_of.ensures.list ls name (c.from_builder.ensures ∙ (c.in-Ok.ensures.ok ∙ ap (λ o. o ++ wire ls) c.in_ok-target.ensures.octets))

pub returns-in-Err-clause-err : goal.returns-in-Err-clause-err
returns-in-Err-clause-err g c =
    let size = lowercase_size (g.Self.NameLabels.labels c.args.self.now) in
    search rules
