use Rattle.domain_message.proofs.Sections.{skipped_none, skipped_more}
use Rattle.domain_message.proofs.section.RecordSection.last_record.Goals as goal

pub loop-record-init : goal.loop-record-init
loop-record-init c = skipped_none _ _

pub loop-record-preserved : goal.loop-record-preserved
loop-record-preserved c = skipped_more _ _ _ _ _ _ c.loop-record.invariant c.in_default.ensures.ok c.in_default.ensures.moves
