use Rattle.dnsnames_c.proofs.Given.{number_given}
use Rattle.dnsnames_c.proofs.data.dnsnames_data_number.Goals as goal

pub returns : goal.returns
returns c =
    number_given c.args.message.now c.args.data_at c.args.data_len c.args.rtype c.args.index c.in-Ok.field c.kind.result c.begin.result c.args.value.now c.number_at.result c.in-Ok.ensures.ok c.kind.ensures c.begin.ensures c.number_at.ensures
