use Rattle.std.proofs.Common.{arith, refl}
use Rattle.domain_label.proofs.WireLaws.{relative_list}
use Rattle.domain_list.proofs.Chaining.{root_fits}
use Rattle.domain_name.specs.Names.{relative_labels}
use Rattle.domain_name.proofs.relative.RelativeName.chain_root.Goals as goal

pub unreachable-requires : goal.unreachable-requires
unreachable-requires g c =
    omega (arith, c.in_default.ensures.long.0 refl, root_fits (relative_labels c.args.self) _ (relative_list c.args.self.relative) c.root_ref.ensures)
