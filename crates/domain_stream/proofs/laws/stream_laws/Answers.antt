use Rattle.domain_stream.proofs.ReadingBack.{in_pieces, read_back, all_read}
use Rattle.domain_stream.proofs.laws.stream_laws.Goals as goal

pub returns-clause-pieces : goal.returns-clause-pieces
returns-clause-pieces c = in_pieces

pub returns-clause-reads_back : goal.returns-clause-reads_back
returns-clause-reads_back c = read_back

pub returns-clause-all_read : goal.returns-clause-all_read
returns-clause-all_read c = all_read
