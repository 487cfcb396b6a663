use Rattle.std.proofs.Common.{subst}
use Rattle.domain_descriptor.specs.Fields.{AreData}
use Rattle.domain_descriptor.specs.Rdatas.{rdata_kinds, rdata_message, rdata_begin}
use Rattle.domain_any_rdata.proofs.ReadingBack.{data_read_back}
use Rattle.domain_any_rdata.proofs.read_back.AllRecordDataReadBackData.reads_back.Goals as goal

pub returns : goal.returns
returns c =
    data_read_back c.args.self.now
    (subst (λ r. AreData (rdata_kinds r) (rdata_message r) (rdata_begin r)) c.rdata.ensures c.are_fields.ensures)
