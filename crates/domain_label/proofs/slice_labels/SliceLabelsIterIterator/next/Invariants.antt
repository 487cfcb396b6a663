use Rattle.std.proofs.Common.{◌≡◌}
use Rattle.domain_label.specs.Labels.{walk_left}
use Rattle.domain_label.proofs.slice_labels.SliceLabelsIterIterator.next.Given as goal

abbrev pub invariant-loop-self : goal.invariant-loop-self
invariant-loop-self l = walk_left l.self ≡ walk_left l.initial.self

abbrev pub decreases-loop-self : goal.decreases-loop-self
decreases-loop-self l = l.self.heads
