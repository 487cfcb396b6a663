use Rattle.std.proofs.Common.{◌≡◌, ◌+◌, ◌≤◌, length}
use Rattle.domain_message_builder.specs.Padding.{ZerosFollow}
use Rattle.domain_message_builder.proofs.padded_options.append_zeros.Given as goal

abbrev pub invariant-loop-octet : goal.invariant-loop-octet
invariant-loop-octet g l = record {
  zeros : ZerosFollow g.Target.OctetsBuilder.extends l._octet l.initial.target l.target;
  size : length (g.Target.Octets.octets l.target) ≡ length (g.Target.Octets.octets l.initial.target) + l._octet;
  room : g.Target.Octets.capacity l.initial.target ≤ g.Target.Octets.capacity l.target;
}
