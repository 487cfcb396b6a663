use Rattle.domain_rdata.specs.Unknown.{data_octets}
use Rattle.domain_fields.specs.ReadBack.{left_read_back}
use Rattle.domain_fields.proofs.read_back.UnknownRecordDataReadBackData.reads_back.Goals as goal

pub returns : goal.returns
returns g c = left_read_back (data_octets {g = g.Octs.Octets} c.args.self.now) c.args.self.now.few
