use Rattle.std.proofs.Common.{ℕ, ◌+◌, ◌≤◌, drop}
use Rattle.domain_builder.specs.Inside.{Held}
use Rattle.domain_name.specs.Builders.{held}
use Rattle.domain_name.specs.Calls.{AppliesAll}
use Rattle.domain_name.proofs.builder.NameBuilder.apply_all.Given as goal

abbrev pub invariant-loop-call : goal.invariant-loop-call
invariant-loop-call g l =
    record {
      applied : (new : Held) (k : ℕ) → AppliesAll g.B.Octets.limit (held l.self) (drop l.call-index l.calls) new k → AppliesAll g.B.Octets.limit (held l.fn.self) l.calls new (k + l.accepted);
      count : l.accepted ≤ l.call-index;
      capacity : (held l.fn.self).capacity ≤ (held l.self).capacity;
    }
