use Rattle.dnsnames_c.proofs.Given.{address_given}
use Rattle.dnsnames_c.proofs.data.dnsnames_data_address.Goals as goal

pub returns-in-Ok : goal.returns-in-Ok
returns-in-Ok c =
    address_given c.args.message.now c.args.data_at c.args.data_len c.args.rtype c.give.result c.in-Ok.field c.octets.result.now c.args.buffer.now c.give.new.buffer c.args.length.now c.give.new.length c.in-Ok.ensures.ok c.octets.ensures c.give.ensures
