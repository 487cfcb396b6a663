use Rattle.domain_message.specs.Kept.{keeps}
use Rattle.domain_message.proofs.Skipping.{PassedOthers}
use Rattle.domain_message.proofs.kept.next_kept.Given as goal

abbrev pub invariant-loop-left : goal.invariant-loop-left
invariant-loop-left g l = PassedOthers (keeps g.D.ParseRecordData.reads_type l.only_in) l.initial.parser l.initial.left l.parser l.left

abbrev pub decreases-loop-left : goal.decreases-loop-left
decreases-loop-left g l = l.left
