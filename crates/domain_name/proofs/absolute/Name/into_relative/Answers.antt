use Rattle.std.proofs.Common.{arith}
use Rattle.domain_flat.proofs.Splits.{root_start, root_long, lacks_root}
use Rattle.domain_name.specs.Names.{name_labels}
use Rattle.domain_name.proofs.absolute.Name.into_relative.Goals as goal

pub truncate-requires : goal.truncate-requires
truncate-requires g c =
    let a = c.args.self.absolute.1.0 in
    root_start _ _ a (omega (arith, c.len-len.ensures, root_long (name_labels c.args.self) a))

pub returns-clause-labels : goal.returns-clause-labels
returns-clause-labels g c =
    let a = c.args.self.absolute.1.0 in
    lacks_root _ _ c.truncate.ensures.parts.0 a c.truncate.ensures.parts.1 (omega (arith, c.len-len.ensures, c.truncate.ensures.offset, root_long (name_labels c.args.self) a))
