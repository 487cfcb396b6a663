use Rattle.std.proofs.Common.{arith}
use Rattle.domain_list.proofs.Chaining.{root_fits}
use Rattle.domain_traits.proofs.ListsOfNames.{accepted}
use Rattle.domain_traits.proofs.to_relative_name.ToRelativeName.chain_root.Goals as goal

pub unwrap-requires : goal.unwrap-requires
unwrap-requires g c =
    let ls = g.Self.NameLabels.labels c.args.self in
    accepted _ (λ h. absurd (omega (arith, c.new.ensures.long.0 h, root_fits ls _ (g.met.Self.Relative.relative c.args.self) c.root_ref.ensures)))
