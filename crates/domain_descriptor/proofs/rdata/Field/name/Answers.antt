use Rattle.domain_descriptor.proofs.Whole.{no_name_fault}
use Rattle.domain_descriptor.proofs.rdata.Field.name.Goals as goal

pub unreachable-requires : goal.unreachable-requires
unreachable-requires c = no_name_fault c.args.self.now.kind c.args.self.now.message.now c.args.self.now.begin c.args.self.now.named c.in-Name.is c.in-None.ensures.none
