use Rattle.std.proofs.Common.{◌∙◌, false, length, sym, ap}
use Rattle.domain_parsed.specs.ParsedNames.{parsed_labels}
use Rattle.domain_fields.specs.Parts.{Part, part_octets}
use Rattle.domain_any_rdata.proofs.Named.{named_part}
use Rattle.domain_any_rdata.proofs.len.field_len.Goals as goal

pub returns-in-Some : goal.returns-in-Some
returns-in-Some c =
    let is = named_part c.args.field.now (parsed_labels c.in-Some.name) c.in-Some.ensures.some.0 c.in-Some.ensures.some.1 in
    c.from.ensures ∙ c.compose_len.ensures ∙ sym (ap (λ (x : Part). length (part_octets false x)) is)
