use Rattle.std.proofs.Common.{refl, arith}
use Rattle.domain_svcb.proofs.ListItems.{first_protocol}
use Rattle.domain_svcb.proofs.list.next_protocol.Goals as goal

pub returns : goal.returns
returns c = first_protocol c.args.octets.now _ _ _ c.from-len.result c.in-len1-up.len_at_least refl c.from-len.ensures (omega arith) c.split_at.ensures.front c.split_at.ensures.back
