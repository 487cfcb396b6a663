use Rattle.std.proofs.Common.{◌≡◌, ◌*◌, ◌≤◌, take}
use Rattle.domain_buffer.specs.Data.{shape}
use Rattle.domain_buffer.proofs.data.shape_of.Given as goal

abbrev pub invariant-loop-kind : goal.invariant-loop-kind
invariant-loop-kind l = record {
  told : l.shape ≡ shape (take l.kind-index l.kinds);
  before : l.shape.before ≤ 16 * l.kind-index;
  names : l.shape.names ≤ l.kind-index;
  after : l.shape.after ≤ 16 * l.kind-index;
}
