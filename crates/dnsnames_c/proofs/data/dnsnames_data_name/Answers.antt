use Rattle.dnsnames_c.proofs.FieldsIn.{name_there}
use Rattle.dnsnames_c.proofs.Given.{name_given}
use Rattle.dnsnames_c.proofs.data.dnsnames_data_name.Goals as goal

pub give_name-requires : goal.give_name-requires
give_name-requires c = name_there c.args.message.now c.args.data_at c.args.data_len c.args.rtype c.args.index c.in-Ok.field c.begin.result c.in-Ok.ensures.ok c.begin.ensures

pub returns : goal.returns
returns c =
    name_given c.args.message.now c.args.data_at c.args.data_len c.args.rtype c.args.index c.give_name.result c.in-Ok.field c.begin.result c.args.buffer.now c.give_name.new.buffer c.args.length.now c.give_name.new.length c.in-Ok.ensures.ok c.begin.ensures c.give_name.ensures
