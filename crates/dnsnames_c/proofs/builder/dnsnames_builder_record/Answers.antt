use Rattle.std.proofs.Common.{inl, inr, refl, sym, rules}
use Rattle.domain_label.specs.Wire.{IsAbsoluteWire}
use Rattle.dnsnames_c.proofs.builder.dnsnames_builder_record.Goals as goal

pub returns-in-None : goal.returns-in-None
returns-in-None c =
    let wired : IsAbsoluteWire c.args.owner.now = search rules in
    inl (c.if-not-is_usable.ensures.0 refl, c.in-Some.section, sym c.in-Some.ensures, wired, inr (c.in-None.ensures.none refl, c.push_data.ensures))
