use Rattle.domain_wire.proofs.BigEndian.{unsigned_read_back, signed_read_back}
use Rattle.domain_wire.proofs.laws.numbers_are_read_back.Goals as goal

pub returns-clause-unsigned : goal.returns-clause-unsigned
returns-clause-unsigned c = unsigned_read_back

pub returns-clause-signed : goal.returns-clause-signed
returns-clause-signed c = signed_read_back
