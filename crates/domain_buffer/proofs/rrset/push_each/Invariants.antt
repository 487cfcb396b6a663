use Rattle.std.proofs.Common.{◌≡◌, length, drop, sum}
use Rattle.domain_buffer.specs.Builders.{headed_by}
use Rattle.domain_buffer.specs.Rrsets.{pieces}
use Rattle.domain_buffer.proofs.Rrsets.{Pushing}
use Rattle.domain_buffer.proofs.rrset.push_each.Given as goal

abbrev pub invariant-loop-size : goal.invariant-loop-size
invariant-loop-size l = record {
  so : Pushing l.section l.owner (headed_by l.owner l.head) (pieces l.lens l.data) (drop l.size-index l.lens) l.rest l.initial.octets l.initial.builder l.octets l.builder;
  left : sum (drop l.size-index l.lens) ≡ length l.rest;
}
