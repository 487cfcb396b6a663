use Rattle.dnsnames_c.proofs.Given.{field_given}
use Rattle.dnsnames_c.proofs.field.dnsnames_data_field.Goals as goal

pub returns-clause-given : goal.returns-clause-given
returns-clause-given c =
    field_given c.args.message.now c.args.data_at c.args.data_len c.args.rtype c.args.class c.args.index c.in-Ok.data c.in-Some.field c.kind.result c.number.result c.number_of_kind.result c.begin.result c.end.result c.unwrap_or.result c.in-Ok.ensures.ok c.in-Some.ensures.some c.kind.ensures c.number_of_kind.ensures
    c.begin.ensures c.end.ensures c.number.ensures c.unwrap_or.ensures
