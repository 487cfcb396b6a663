use Rattle.domain_traits.proofs.to_name.ToName.to_cow.Goals as goal

pub name_of-requires : goal.name_of-requires
name_of-requires g c =
    (g.Self.NameLabels.labels c.args.self.now, g.met.Self.Absolute.absolute c.args.self.now, c.in_ok-lend_or_build.ensures.ok)

pub returns-clause-ok : goal.returns-clause-ok
returns-clause-ok g c =
    c.name_of.ensures.list _ (g.met.Self.Absolute.absolute c.args.self.now) c.in_ok-lend_or_build.ensures.ok
