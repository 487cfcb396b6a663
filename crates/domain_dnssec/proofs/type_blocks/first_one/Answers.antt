use Rattle.std.proofs.Common.{rules}
use Rattle.domain_dnssec.proofs.FirstBit.{first_is, none_is}
use Rattle.domain_dnssec.proofs.type_blocks.first_one.Goals as goal

pub returns-clause-bits : goal.returns-clause-bits
returns-clause-bits c = first_is c.args.octet (search rules) c.if-octet-eq0.false

pub returns-then-octet-eq0-clause-bits : goal.returns-then-octet-eq0-clause-bits
returns-then-octet-eq0-clause-bits c = none_is c.args.octet c.if-octet-eq0.true
