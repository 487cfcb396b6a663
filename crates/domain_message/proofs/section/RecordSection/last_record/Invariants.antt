use Rattle.domain_message.specs.Entries.{RecordAt}
use Rattle.domain_message.proofs.Sections.{Skipped}
use Rattle.domain_message.proofs.section.RecordSection.last_record.Given as goal

abbrev pub invariant-loop-record : goal.invariant-loop-record
invariant-loop-record l = Skipped RecordAt l.initial.parser l._record l.parser
