use Rattle.std.proofs.Common.{◌≤◌, length, take}
use Rattle.domain_descriptor.specs.Fields.{FieldsAt}
use Rattle.domain_descriptor.proofs.field.fields_end.Given as goal

abbrev pub invariant-loop-kind : goal.invariant-loop-kind
invariant-loop-kind l = record {
  at : FieldsAt (take l.kind-index l.kinds) l.message l.begin l.at;
  inside : l.at ≤ length l.message;
}
