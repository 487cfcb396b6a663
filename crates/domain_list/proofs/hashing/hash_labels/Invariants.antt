use Rattle.std.proofs.Common.{◌≡◌}
use Rattle.std.specs.List.{fold}
use Rattle.domain_list.specs.HashInput.{name_hash_input}
use Rattle.domain_list.proofs.hashing.hash_labels.Given as goal

abbrev pub invariant-loop-label : goal.invariant-loop-label
invariant-loop-label g l = record {
  can : (goal.iterator-loop-label g).can_next l.labels;
  ends : (goal.iterator-loop-label g).is_finite l.labels;
  fed : fold g.H.Hasher.write l.state (name_hash_input (g.I.LabelIterator.left l.labels)) ≡ fold g.H.Hasher.write l.initial.state (name_hash_input (g.I.LabelIterator.left l.initial.labels));
}
