use Rattle.std.proofs.Common.{ap, arith, length}
use Rattle.domain_label.proofs.CanonicalForm.{lowercase_size}
use Rattle.domain_name.specs.Names.{name_labels}
use Rattle.dnsnames_c.proofs.compare.canonical_form.Goals as goal

pub unreachable-requires : goal.unreachable-requires
unreachable-requires c =
    let ls = name_labels c.in-Ok.name in
    omega (arith, c.in_default-compose_canonical_name.ensures.full, lowercase_size ls, c.in-Ok.name.absolute.1.1, ap length c.new-form.ensures)
