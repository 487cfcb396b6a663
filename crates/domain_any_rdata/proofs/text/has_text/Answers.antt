use Rattle.std.proofs.Common.{◌∙◌, sym}
use Rattle.domain_parsed.specs.ParsedNames.{parsed_labels}
use Rattle.domain_any_rdata.proofs.Telling.{name_told, octets_told, held_field}
use Rattle.domain_any_rdata.proofs.text.has_text.Goals as goal

pub returns-in-Some : goal.returns-in-Some
returns-in-Some c = name_told c.args.field.now (parsed_labels c.in-Some.field-0) c.in-Some.ensures.some.0 c.in-Some.ensures.some.1

pub returns-in-None : goal.returns-in-None
returns-in-None c first =
    octets_told c.args.field.now c.read.result c.in-None.ensures.none (held_field c.args.field.now c.kind.result c.octets.result.now c.read.result c.kind.ensures c.octets.ensures c.read.ensures) first
    ∙ sym c.is_some.ensures
