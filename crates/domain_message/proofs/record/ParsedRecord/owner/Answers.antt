use Rattle.std.proofs.Common.{sym}
use Rattle.domain_reading.proofs.LabelsAt.{labels_named}
use Rattle.domain_message.proofs.record.ParsedRecord.owner.Goals as goal

pub unreachable-requires : goal.unreachable-requires
unreachable-requires c = c.args.self.now.named c.in_default.ensures.err.0 c.in_default.ensures.err.2

pub returns : goal.returns
returns c = sym (labels_named c.in-Ok.ensures.labels)
