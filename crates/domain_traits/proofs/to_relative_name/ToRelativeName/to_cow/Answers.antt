use Rattle.domain_traits.proofs.to_relative_name.ToRelativeName.to_cow.Goals as goal

pub relative_name_of-requires : goal.relative_name_of-requires
relative_name_of-requires g c =
    (g.Self.NameLabels.labels c.args.self.now, g.met.Self.Relative.relative c.args.self.now, c.in_ok-lend_or_build.ensures.ok)

pub returns-clause-ok : goal.returns-clause-ok
returns-clause-ok g c =
    c.relative_name_of.ensures.list _ (g.met.Self.Relative.relative c.args.self.now) c.in_ok-lend_or_build.ensures.ok
