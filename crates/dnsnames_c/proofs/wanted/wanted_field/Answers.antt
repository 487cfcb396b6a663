use Rattle.domain_descriptor.specs.Table.{known_fields}
use Rattle.dnsnames_c.proofs.FieldsIn.{place_known}
use Rattle.dnsnames_c.proofs.wanted.wanted_field.Goals as goal

pub returns-clause-ok : goal.returns-clause-ok
returns-clause-ok c = (
  c.in-Some.place,
  place_known c.args.wanted c.known_fields.result.now (known_fields c.args.rtype 1) c.args.index c.in-Some.place c.known_fields.ensures c.in-Some.ensures.some,
  (c.in-Ok.data, c.in-Ok.ensures.ok, c.in-Some-field.ensures.some),
)
